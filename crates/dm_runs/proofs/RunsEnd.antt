-- What the laws over runs have in common.
use Rattle.std.proofs.Common.{List, ◌∷◌, ◌++◌}
use Rattle.dm_model.specs.declared.state.Joint.{Joint}
use Rattle.dm_model.specs.Hashed.{NoCollision}
use Rattle.dm_model.specs.Project.{plain_run, run_steps}
use Rattle.dm_model.specs.Step.{RunEntry, Run}
use Rattle.dm_invariant.specs.Kept.{InvariantHolds}
use Rattle.dm_invariant.specs.Opened.{Opened}
use Rattle.dm_invariant.specs.StandsFor.{plain_of}
use Rattle.dm_shown.specs.Reads.{OnlineRight, RecalledRight}
use Rattle.dm_shown.proofs.FilesRead.{online_right, recalled_right}
use Rattle.dm_shown.proofs.NamespaceShown.{agrees_of}
use Rattle.dm_shown.proofs.PathsAlong.{begun_right}
use Rattle.dm_runs.specs.Reads.{RecallsAnswered, begin_entry}
use Rattle.dm_runs.proofs.EventsKept.{run_kept, run_kept_along, run_shows}
use Rattle.dm_runs.proofs.RunsJoined.{along_after, run_joined}
use Rattle.dm_runs.proofs.SumsTell.{reads_tell}

pub run_ends : (j : Joint) (entries : List RunEntry) (k : Joint) → Opened j → NoCollision j entries → Run j entries k → InvariantHolds k
run_ends j entries k opened apart run = run_kept j entries k opened (reads_tell j entries k opened apart run) run

pub run_online : (j : Joint) (entries : List RunEntry) (k : Joint) → Opened j → NoCollision j entries → Run j entries k
    → OnlineRight k (plain_run (run_steps j entries) (plain_of j))
run_online j entries k opened apart run =
    let tell = reads_tell j entries k opened apart run in
    online_right k (plain_run (run_steps j entries) (plain_of j))
    (agrees_of k (run_kept j entries k opened tell run) (plain_run (run_steps j entries) (plain_of j)) (run_shows j entries k opened tell run))

pub run_recalled : (j : Joint) (entries : List RunEntry) (k : Joint) → Opened j → NoCollision j entries → Run j entries k
    → RecalledRight k (plain_run (run_steps j entries) (plain_of j))
run_recalled j entries k opened apart run =
    let tell = reads_tell j entries k opened apart run in
    let kept = run_kept j entries k opened tell run in
    recalled_right k (plain_run (run_steps j entries) (plain_of j)) kept
    (agrees_of k kept (plain_run (run_steps j entries) (plain_of j)) (run_shows j entries k opened tell run))

pub recalls_answered : (j : Joint) (entries : List RunEntry) (i : Joint) → Opened j → Run j entries i → RecallsAnswered j entries i
recalls_answered j entries i opened run begun k after v w request number len path b groups later bytes given now is on further ended apart =
    let e = begin_entry v request path number b len groups in
    let whole = entries ++ e ∷ later in
    let ns = plain_run (run_steps j whole) (plain_of j) in
    let all = run_joined j entries i (e ∷ later) k run (begun, is, further) in
    let tell = reads_tell j whole k opened apart all in
    let kept = run_kept j whole k opened tell all in
    begun_right path request i v begun number len b groups is later k ns
    (along_after j entries i e begun later run is (run_kept_along j whole k opened tell all)) on further
    (agrees_of k kept ns (run_shows j whole k opened tell all)) w bytes given now after ended
