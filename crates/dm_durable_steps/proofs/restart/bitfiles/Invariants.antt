use Rattle.dm_durable_steps.proofs.Sets.{Gathered}
use Rattle.dm_durable_steps.proofs.restart.bitfiles.Given as goal

abbrev pub invariant-loop-inode : goal.invariant-loop-inode
invariant-loop-inode l = Gathered l.making l.inodes l.set l.inode-iterator
