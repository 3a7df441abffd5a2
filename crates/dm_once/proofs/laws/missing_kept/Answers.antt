use Rattle.dm_once.proofs.MissingAlong.{event_listed, run_listed, unmounted_listed}
use Rattle.dm_once.proofs.laws.missing_kept.Goals as goal

pub returns-clause-opened : goal.returns-clause-opened
returns-clause-opened c j opened = unmounted_listed j (λ g s is. (opened.sides g s is).mounts)

pub returns-clause-events : goal.returns-clause-events
returns-clause-events c j k w e a kept listed is = event_listed j w kept listed e k a is

pub returns-clause-runs : goal.returns-clause-runs
returns-clause-runs c j entries k kept run listed = run_listed j entries k kept run listed
