use Rattle.dm_rows.proofs.Methods.{edits_there}
use Rattle.dm_rows.proofs.places.edit_at.Goals as goal

pub returns : goal.returns
returns g c =
    edits_there (g.F.Edit.edited c.args.edit.now) c.args.rows.now c.args.at c.index-rows-at.result c.deref_mut.result.now c.edit.new.row c.requires c.deref_mut.ensures.value c.edit.ensures
