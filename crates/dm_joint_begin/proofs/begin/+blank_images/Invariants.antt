use Rattle.std.proofs.Common.{length}
use Rattle.dm_joint_begin.proofs.begin.+blank_images.Given as goal

abbrev pub decreases-blank_images : goal.decreases-blank_images
decreases-blank_images l = length l.volumes.now
