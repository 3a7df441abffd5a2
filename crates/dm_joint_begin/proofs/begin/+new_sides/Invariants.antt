use Rattle.std.proofs.Common.{length}
use Rattle.dm_joint_begin.proofs.begin.+new_sides.Given as goal

abbrev pub decreases-new_sides : goal.decreases-new_sides
decreases-new_sides l = length l.groups.now
