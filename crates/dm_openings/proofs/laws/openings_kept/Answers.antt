use Rattle.dm_history.specs.History.{run_of, state_seen}
use Rattle.dm_runs.proofs.EventsKept.{run_kept, run_kept_along}
use Rattle.dm_runs.proofs.SumsTell.{reads_tell}
use Rattle.dm_shown.proofs.BitfilesThere.{request_there}
use Rattle.dm_openings.proofs.OpeningsBegin.{run_in}
use Rattle.dm_openings.proofs.laws.openings_kept.Goals as goal

pub returns-clause-tell : goal.returns-clause-tell
returns-clause-tell c l j xs is rises legal apart = reads_tell j (run_of xs) (state_seen j xs) is.opened apart (run_in l j xs is rises legal)

pub returns-clause-along : goal.returns-clause-along
returns-clause-along c l j xs is rises legal apart = run_kept_along j (run_of xs) (state_seen j xs) is.opened apart (run_in l j xs is rises legal)

pub returns-clause-there : goal.returns-clause-there
returns-clause-there c l j xs is rises legal apart =
    request_there (state_seen j xs) (run_kept j (run_of xs) (state_seen j xs) is.opened apart (run_in l j xs is rises legal))
