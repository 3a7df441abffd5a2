use Rattle.std.proofs.Common.{length}
use Rattle.dm_joint_effects.proofs.tips.+move_tips_behind.Given as goal

abbrev pub decreases-move_tips_behind : goal.decreases-move_tips_behind
decreases-move_tips_behind l = length l.pieces.now
