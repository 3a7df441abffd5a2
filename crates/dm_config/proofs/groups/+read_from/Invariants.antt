use Rattle.std.proofs.Common.{◌-◌}
use Rattle.dm_config.proofs.groups.+read_from.Given as goal

abbrev pub decreases-read_from : goal.decreases-read_from
decreases-read_from l = 5 - l.number
