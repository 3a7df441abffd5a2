use Rattle.std.proofs.Common.{length}
use Rattle.dm_joint_effects.proofs.sides.+edit_each.Given as goal

abbrev pub decreases-edit_each : goal.decreases-edit_each
decreases-edit_each g l = length l.groups.now
