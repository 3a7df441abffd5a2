use Rattle.std.proofs.Common.{length}
use Rattle.dm_group_plans.proofs.new_volumes.+least_missing.Given as goal

abbrev pub decreases-least_missing : goal.decreases-least_missing
decreases-least_missing l = length l.vsns.now
