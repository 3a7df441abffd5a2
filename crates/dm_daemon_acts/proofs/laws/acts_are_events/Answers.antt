use Rattle.dm_daemon_acts.proofs.Events.{answered, failed, failed_early}
use Rattle.dm_daemon_acts.proofs.Settled.{called, failed_call, landed_called}
use Rattle.dm_daemon_acts.proofs.laws.acts_are_events.Goals as goal

pub returns-clause-answered : goal.returns-clause-answered
returns-clause-answered c j k w call a is = answered j k w call a is

pub returns-clause-failed : goal.returns-clause-failed
returns-clause-failed c j k w call a is = failed j k w call a is

pub returns-clause-failed_early : goal.returns-clause-failed_early
returns-clause-failed_early c j k w call a healed is = failed_early j k w call a healed is

pub returns-clause-settled : goal.returns-clause-settled
returns-clause-settled c j k w call a heals is = called j k w call a heals is

pub returns-clause-landed : goal.returns-clause-landed
returns-clause-landed c j m k v w call a b landed is = landed_called j m k v w call a b landed is

pub returns-clause-failed_settled : goal.returns-clause-failed_settled
returns-clause-failed_settled c j k w call a r pays is = failed_call j k w call a r pays is
