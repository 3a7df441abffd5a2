-- What was so at some moment of a run is so at its end: a chunk that was live, and the content of a bitfile.
use Rattle.std.proofs.Common.{◌≡◌, ℕ, Some, List, ◌++◌}
use Rattle.std.specs.FinMap as map
use Rattle.dm_base.specs.declared.volume.Chunk.{Chunk}
use Rattle.dm_durable.specs.declared.group.BitfileRow.{BitfileRow}
use Rattle.dm_durable.specs.declared.group.VolumeRow.{VolumeRow}
use Rattle.dm_model.specs.declared.state.Joint.{Joint}
use Rattle.dm_model.specs.declared.state.Side.{Side}
use Rattle.dm_model.specs.Hashed.{NoCollision}
use Rattle.dm_model.specs.Step.{RunEntry, Run}
use Rattle.dm_invariant.specs.Among.{IsAmong}
use Rattle.dm_invariant.specs.Opened.{Opened}
use Rattle.dm_once.specs.Missing.{ListedRight}
use Rattle.dm_once.specs.WasLive.{WasLiveIn}
use Rattle.dm_once.proofs.ContentsStay.{run_stays}
use Rattle.dm_once.proofs.MissingAlong.{run_listed, unmounted_listed}
use Rattle.dm_once.proofs.OnceAlong.{live_was, run_was}
use Rattle.dm_shown.specs.Along.{KeptAlong}
use Rattle.dm_shown.proofs.RunsShown.{kept_first}
use Rattle.dm_runs.proofs.EventsKept.{run_kept_along}
use Rattle.dm_runs.proofs.RunsJoined.{along_behind, run_joined}
use Rattle.dm_runs.proofs.SumsTell.{reads_tell}

along : (j : Joint) (entries : List RunEntry) (k : Joint) → Opened j → NoCollision j entries → Run j entries k → KeptAlong j entries
along j entries k opened apart run = run_kept_along j entries k opened (reads_tell j entries k opened apart run) run

module _ (j : Joint) (before : List RunEntry) (mid : Joint) (later : List RunEntry) (k : Joint) (opened : Opened j) (apart : NoCollision j (before ++ later))
    (one : Run j before mid) (two : Run mid later k) where
  on : KeptAlong mid later
  on = along_behind j before mid later one (along j (before ++ later) k opened apart (run_joined j before mid later k one two))

  pub content_stays : (b : ℕ) (bytes : List ℕ) → map.get mid.history.contents b ≡ Some bytes → map.get k.history.contents b ≡ Some bytes
  content_stays b bytes is = run_stays b bytes mid later k on two is

  pub live_stays : (g b : ℕ) (s : Side) (row : BitfileRow) (c : Chunk) (v : VolumeRow) → map.get mid.sides g ≡ Some s
      → map.get s.group.tables.bitfiles b ≡ Some row → IsAmong c row.chunks → map.get s.group.tables.volumes c.vsn.0 ≡ Some v → WasLiveIn k g v.epoch b c
  live_stays g b s row c v side is among there =
      run_was g v.epoch b c mid later k on two (live_was mid (kept_first mid later on) g b s row c v side is among there)

pub listed_right : (j : Joint) (entries : List RunEntry) (k : Joint) → Opened j → NoCollision j entries → Run j entries k → ListedRight k
listed_right j entries k opened apart run =
    run_listed j entries k (along j entries k opened apart run) run (unmounted_listed j (λ g s is. (opened.sides g s is).mounts))
