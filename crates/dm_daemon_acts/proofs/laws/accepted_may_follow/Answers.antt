use Rattle.dm_daemon_acts.proofs.Follows.{accepted_may_follow}
use Rattle.dm_daemon_acts.proofs.laws.accepted_may_follow.Goals as goal

pub returns : goal.returns
returns c d call r own usable pays = accepted_may_follow d call r own usable pays
