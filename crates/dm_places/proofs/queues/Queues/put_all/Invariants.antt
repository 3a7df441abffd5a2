use Rattle.std.proofs.Common.{take}
use Rattle.dm_places.specs.Queues.{PutsAll}
use Rattle.dm_places.proofs.queues.Queues.put_all.Given as goal

abbrev pub invariant-loop-chunk : goal.invariant-loop-chunk
invariant-loop-chunk l = PutsAll l.fn.self.rows.rows l.bfid.0 (take l.chunk-index l.chunks) l.self.rows.rows
