use Rattle.dm_volumes.proofs.Loops.{Asking}
use Rattle.dm_volumes.proofs.volumes.Volumes.has_slot.Given as goal

abbrev pub invariant-loop-at : goal.invariant-loop-at
invariant-loop-at l = Asking l.slot l.at l.self.rows.rows
