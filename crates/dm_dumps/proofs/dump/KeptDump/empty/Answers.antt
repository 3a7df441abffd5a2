use Rattle.dm_durable.specs.Dumps.{bytes_kept}
use Rattle.dm_dumps.proofs.Sizes.{size_none}
use Rattle.dm_dumps.proofs.dump.KeptDump.empty.Goals as goal

pub invariant_of-result : goal.invariant_of-result
invariant_of-result c = size_none bytes_kept c.empty.result.rows c.empty.ensures
