use Rattle.dm_ongoing.proofs.SpansAlong.{event_has}
use Rattle.dm_ongoing.proofs.SpansStay.{requested_free, run_has}
use Rattle.dm_ongoing.proofs.laws.chunks_stay.Goals as goal

pub returns-clause-events : goal.returns-clause-events
returns-clause-events c j k w e a g b spans kept untaken has is = event_has g b spans j w kept untaken has e k a is

pub returns-clause-runs : goal.returns-clause-runs
returns-clause-runs c j entries k g b spans kept run free has = run_has g b spans j entries k kept run free has

pub returns-clause-requested : goal.returns-clause-requested
returns-clause-requested c j n r kept is = requested_free j n r kept is
