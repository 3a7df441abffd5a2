use Rattle.std.proofs.Common.{length}
use Rattle.dm_daemon_refusals.proofs.first.+first_error.Given as goal

abbrev pub decreases-first_error : goal.decreases-first_error
decreases-first_error l = length l.tests.now
