use Rattle.std.proofs.Common.{length}
use Rattle.dm_verdicts.proofs.guards.+lowest.Given as goal

abbrev pub decreases-lowest : goal.decreases-lowest
decreases-lowest l = length l.tests.now
