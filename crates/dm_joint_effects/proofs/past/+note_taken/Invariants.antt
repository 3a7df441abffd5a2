use Rattle.std.proofs.Common.{length}
use Rattle.dm_joint_effects.proofs.past.+note_taken.Given as goal

abbrev pub decreases-note_taken : goal.decreases-note_taken
decreases-note_taken l = length l.bfids.now
