-- What a pass of the product has seen is legal for what was loaded.
use Rattle.std.specs.Prelude.{ℕ, List}
use Rattle.dm_history.specs.History.{run_of, state_seen}
use Rattle.dm_model.specs.declared.entry.HistoryEntry.{HistoryEntry}
use Rattle.dm_model.specs.declared.state.Joint.{Joint}
use Rattle.dm_model.specs.Step.{Run}
use Rattle.dm_openings.specs.Openings.{IsOpening, openings}
use Rattle.dm_openings.proofs.OpeningsBegin.{run_in}
use Rattle.dm_spine.specs.Past.{Legal, Rises}
use Rattle.dm_bench.specs.Systems.{loaded_by, machine}
use Rattle.dm_bench.specs.declared.system.System.{System}

pub legal_loaded : (s : System) (xs : List (ℕ × HistoryEntry)) → Legal machine s xs → Legal openings (loaded_by s) xs
legal_loaded s xs legal = λ n e h. let fits = legal n e h in record { needed = fits.needed; followed = fits.followed }

pub runs : (s : System) (j : Joint) (xs : List (ℕ × HistoryEntry)) → IsOpening (loaded_by s).state j → Rises 0 xs → Legal machine s xs
    → Run j (run_of xs) (state_seen j xs)
runs s j xs is rises legal = run_in (loaded_by s) j xs is rises (legal_loaded s xs legal)
