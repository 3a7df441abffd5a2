use Rattle.dm_daemon_acts.proofs.Settled.{ready_may_follow}
use Rattle.dm_daemon_acts.proofs.laws.ready_may_follow.Goals as goal

pub returns : goal.returns
returns c d call landed r ready pays = ready_may_follow d call landed r ready pays
