use Rattle.dm_once.proofs.OnceAlong.{event_was, live_was, run_was}
use Rattle.dm_once.proofs.laws.once_live.Goals as goal

pub returns-clause-begins : goal.returns-clause-begins
returns-clause-begins x j g b s row c v kept side is among on = live_was j kept g b s row c v side is among on

pub returns-clause-events : goal.returns-clause-events
returns-clause-events x j k w e a g epoch b c kept is was = event_was j w kept g epoch b c e k a is was

pub returns-clause-runs : goal.returns-clause-runs
returns-clause-runs x j entries k g epoch b c kept run was = run_was g epoch b c j entries k kept run was
