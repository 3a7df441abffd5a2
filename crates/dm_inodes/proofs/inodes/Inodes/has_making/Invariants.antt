use Rattle.dm_inodes.proofs.Seeking.{Seeking}
use Rattle.dm_inodes.proofs.inodes.Inodes.has_making.Given as goal

abbrev pub invariant-loop-at : goal.invariant-loop-at
invariant-loop-at l = Seeking l.at l.self.rows.rows
