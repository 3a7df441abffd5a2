use Rattle.dm_copies.proofs.EventsAsk.{event_asks, opened_asks, run_asks}
use Rattle.dm_copies.proofs.laws.copies_are_asked.Goals as goal

pub returns-clause-runs : goal.returns-clause-runs
returns-clause-runs c j entries k opened run = run_asks j entries k (opened_asks j opened) run

pub returns-clause-events : goal.returns-clause-events
returns-clause-events c j k w e a asked is = event_asks j asked w e k a is
