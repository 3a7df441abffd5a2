use Rattle.dm_durable.specs.Fields.{FitsCopy}
use Rattle.dm_fields.specs.Parts.{copy_group}
use Rattle.dm_fields.proofs.Items.{Writes}
use Rattle.dm_fields.proofs.copies.put_groups.Given as goal

abbrev pub invariant-loop-copy : goal.invariant-loop-copy
invariant-loop-copy l = Writes copy_group FitsCopy l.fn.copies l.copy-index l.fn.at l.end l.fn.out l.out
