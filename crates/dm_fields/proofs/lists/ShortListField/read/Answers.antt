use Rattle.std.proofs.Common.{refl}
use Rattle.dm_fields.specs.Fields.{short_list_field}
use Rattle.dm_fields.proofs.Absent.{absent_as}
use Rattle.dm_fields.proofs.Items.{short_list_absent}
use Rattle.dm_fields.proofs.lists.ShortListField.read.Goals as goal

pub returns-in-Err : goal.returns-in-Err
returns-in-Err g c =
    absent_as (short_list_field g.T.Spelled.spelling) _ _ _ (λ l. l.items) (λ l p. p) (λ l. refl) c.args.input.now c.read_items.new.input c.read_items.new.input c.in-Err.error
    (short_list_absent g.T.Spelled.spelling g.T.Spelled.fits c.in-Some.count c.args.input.now c.take_byte.new.input c.read_items.new.input c.in-Err.error c.in-Some.ensures.1 c.in-Err.ensures)
