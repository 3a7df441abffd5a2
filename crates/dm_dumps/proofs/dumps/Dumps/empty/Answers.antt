use Rattle.dm_durable.specs.Dumps.{dump_size}
use Rattle.dm_dumps.proofs.Sizes.{size_none}
use Rattle.dm_dumps.proofs.dumps.Dumps.empty.Goals as goal

pub invariant_of-result : goal.invariant_of-result
invariant_of-result c = record { sized = size_none dump_size c.empty.result.rows c.empty.ensures }
