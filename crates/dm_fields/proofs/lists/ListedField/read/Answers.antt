use Rattle.std.proofs.Common.{append_assoc, ◌++◌, ◌∙◌, length}
use Rattle.std.specs.List.{flat_map}
use Rattle.dm_fields.specs.Numbers.{be32}
use Rattle.dm_fields.proofs.Absent.{too_short}
use Rattle.dm_fields.proofs.Items.{list_read}
use Rattle.dm_fields.proofs.lists.ListedField.read.Goals as goal

pub returns-in_default : goal.returns-in_default
returns-in_default g c = λ x rest fits e.
    too_short 4 (length x) c.args.input.now (flat_map g.T.Spelled.spelling x ++ rest) c.in_default.ensures (e ∙ append_assoc (be32 (length x)) (flat_map g.T.Spelled.spelling x) rest)

pub returns : goal.returns
returns g c =
    list_read g.T.Spelled.spelling g.T.Spelled.fits c.in-Some.count c.args.input.now c.take_be32.new.input c.read_items.new.input c.read_items.result c.in-Some.ensures.0 c.in-Some.ensures.1 c.read_items.ensures
