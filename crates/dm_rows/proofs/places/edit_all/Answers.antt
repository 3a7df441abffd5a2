use Rattle.dm_rows.proofs.Methods.{edited_on, edited_end}
use Rattle.dm_rows.proofs.places.edit_all.Goals as goal

pub loop-row-preserved : goal.loop-row-preserved
loop-row-preserved g c =
    edited_on (g.F.Edit.edited c.args.edit.now) c.args.rows.now c.loop-row.rows c.loop-row.row-index c.row-item.result c.deref_mut.result.now c.edit.new.row c.loop-row-test.true c.loop-row.invariant c.row-item.is c.deref_mut.ensures.value c.edit.ensures

pub returns : goal.returns
returns g c = edited_end (g.F.Edit.edited c.args.edit.now) c.args.rows.now c.loop-row.rows c.loop-row.row-index c.loop-row-test.false c.loop-row.invariant
