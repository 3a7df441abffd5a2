use Rattle.dm_effects.proofs.DaemonEvents.{event_keeps}
use Rattle.dm_shown.proofs.RunsShown.{daemon_along, event_plain, plain_is_shown, run_plain}
use Rattle.dm_shown.proofs.laws.plain_kept.Goals as goal

pub returns-clause-events : goal.returns-clause-events
returns-clause-events c j k w e a ns kept later is same = event_plain j k w e a ns kept later is same

pub returns-clause-of_daemon : goal.returns-clause-of_daemon
returns-clause-of_daemon c j k w e a ns kept of is same = event_plain j k w e a ns kept (event_keeps j kept w k a e of is) is same

pub returns-clause-runs : goal.returns-clause-runs
returns-clause-runs c j entries k ns kept run same = run_plain j entries k ns kept run same

pub returns-clause-runs_of_daemon : goal.returns-clause-runs_of_daemon
returns-clause-runs_of_daemon c j entries k ns kept of run same = run_plain j entries k ns (daemon_along j entries k kept of run) run same

pub returns-clause-seen : goal.returns-clause-seen
returns-clause-seen c j kept = plain_is_shown j kept
