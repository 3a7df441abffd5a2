use Rattle.std.proofs.Common.{take}
use Rattle.dm_places.specs.Queues.{KeepsFewer}
use Rattle.dm_places.proofs.queues.Queues.give_back_all.Given as goal

abbrev pub invariant-loop-chunk : goal.invariant-loop-chunk
invariant-loop-chunk l = KeepsFewer l.fn.self.rows.rows (take l.chunk-index l.chunks) l.self.rows.rows
