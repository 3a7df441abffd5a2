use Rattle.dm_invariant.proofs.KeptSound.{kept_sound}
use Rattle.dm_shown.proofs.BitfilesThere.{request_there}
use Rattle.dm_runs.proofs.EventsKept.{run_kept_along, run_shows}
use Rattle.dm_runs.proofs.RunsEnd.{run_ends}
use Rattle.dm_runs.proofs.SumsTell.{reads_tell}
use Rattle.dm_history.specs.History.{run_of, state_seen}
use Rattle.dm_history.proofs.PastsRun.{past_runs}
use Rattle.dm_history.proofs.laws.past_kept.Goals as goal

pub returns-clause-along : goal.returns-clause-along
returns-clause-along c begun xs opened rises legal apart =
    let run = past_runs begun xs opened rises legal in
    run_kept_along begun.opened (run_of xs) (state_seen begun.opened xs) opened
    (reads_tell begun.opened (run_of xs) (state_seen begun.opened xs) opened apart run) run

pub returns-clause-kept : goal.returns-clause-kept
returns-clause-kept c begun xs opened rises legal apart =
    run_ends begun.opened (run_of xs) (state_seen begun.opened xs) opened apart (past_runs begun xs opened rises legal)

pub returns-clause-sound : goal.returns-clause-sound
returns-clause-sound c begun xs opened rises legal apart =
    kept_sound (state_seen begun.opened xs)
    (run_ends begun.opened (run_of xs) (state_seen begun.opened xs) opened apart (past_runs begun xs opened rises legal))

pub returns-clause-shown : goal.returns-clause-shown
returns-clause-shown c begun xs opened rises legal apart =
    let run = past_runs begun xs opened rises legal in
    run_shows begun.opened (run_of xs) (state_seen begun.opened xs) opened
    (reads_tell begun.opened (run_of xs) (state_seen begun.opened xs) opened apart run) run

pub returns-clause-there : goal.returns-clause-there
returns-clause-there c begun xs opened rises legal apart =
    request_there (state_seen begun.opened xs)
    (run_ends begun.opened (run_of xs) (state_seen begun.opened xs) opened apart (past_runs begun xs opened rises legal))
