use Rattle.dm_once.proofs.ContentsStay.{content_stays, run_stays}
use Rattle.dm_once.proofs.laws.content_kept.Goals as goal

pub returns-clause-events : goal.returns-clause-events
returns-clause-events x j k w e a b bytes kept is there = content_stays j w kept b bytes there e k a is

pub returns-clause-runs : goal.returns-clause-runs
returns-clause-runs x j entries k b bytes kept run there = run_stays b bytes j entries k kept run there
