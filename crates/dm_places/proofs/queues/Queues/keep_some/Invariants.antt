use Rattle.std.proofs.Common.{take}
use Rattle.dm_places.specs.Queues.{KeepsMore}
use Rattle.dm_places.proofs.queues.Queues.keep_some.Given as goal

abbrev pub invariant-loop-at : goal.invariant-loop-at
invariant-loop-at l = KeepsMore l.fn.self.rows.rows (take l.at l.chunks) l.self.rows.rows
