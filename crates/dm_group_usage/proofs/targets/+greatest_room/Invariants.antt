use Rattle.std.proofs.Common.{length}
use Rattle.dm_group_usage.proofs.targets.+greatest_room.Given as goal

abbrev pub decreases-greatest_room : goal.decreases-greatest_room
decreases-greatest_room l = length l.spaces.now
