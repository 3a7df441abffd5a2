-- What a read of a chunk answers after a run.
use Rattle.std.specs.Prelude.{◌≡◌, ◌⊎◌, ℕ, Some, List, [], ◌∷◌, ◌++◌}
use Rattle.std.specs.List.{AllByRecursion}
use Rattle.std.specs.FinMap as map
use Rattle.dm_base.specs.declared.identifier.Bfid.{Bfid}
use Rattle.dm_base.specs.declared.identifier.GroupId.{GroupId}
use Rattle.dm_base.specs.declared.identifier.Secs.{Secs}
use Rattle.dm_base.specs.declared.serial.Vsn.{Vsn}
use Rattle.dm_base.specs.declared.volume.Chunk.{Chunk}
use Rattle.dm_model.specs.declared.answer.Answer.TheVariants as answer
use Rattle.dm_model.specs.declared.call.Call.TheVariants as call
use Rattle.dm_model.specs.declared.call.DaemonCall.TheVariants as daemon_call
use Rattle.dm_model.specs.declared.call.Event.TheVariants as event
use Rattle.dm_model.specs.declared.call.VolumeCall.TheVariants as volume_call
use Rattle.dm_model.specs.declared.state.Joint.{Joint}
use Rattle.dm_model.specs.declared.state.MountState.{MountState}
use Rattle.dm_model.specs.declared.state.Side.{Side}
use Rattle.dm_model.specs.Hashed.{NoCollision}
use Rattle.dm_model.specs.Project.{plain_run, run_steps}
use Rattle.dm_model.specs.Step.{RunEntry, Run, Stepped, step}
use Rattle.dm_plain.specs.Namespace.{bytes_of}
use Rattle.dm_invariant.specs.Moves.{ReadPart}
use Rattle.dm_invariant.specs.StandsFor.{plain_of}
use Rattle.dm_shown.specs.Along.{GoesOn}
use Rattle.dm_shown.specs.Reads.{IsForChunk, OtherSum}

-- the entry of a read of a whole chunk that gave these bytes
abbrev pub read_entry : ℕ → GroupId → Vsn → ℕ → Chunk → List ℕ → RunEntry
read_entry w g vsn m c bytes = record {
  worker = w;
  event = event.Call (call.Volume g vsn (volume_call.ReadChunk m c.place c.len bytes));
  answer = answer.ChunkRead bytes;
}

-- after these entries a read of the chunk that a mount was made for gives the chunk's part of the content, or bytes without the
-- chunk's sum: where the sums of what was hashed until then, the read's bytes among it, tell byte lists apart
abbrev pub ChunksReadRight : Joint → List RunEntry → Joint → Type 0
ChunksReadRight j entries k =
    (w m : ℕ) (g : GroupId) (vsn : Vsn) (b : Bfid) (c : Chunk) (bytes : List ℕ) (s : Side) (x : MountState) (after : Joint)
    → map.get k.sides g.0 ≡ Some s → map.get s.mounts m ≡ Some x → IsForChunk b c x.origin
    → step k w (read_entry w g vsn m c bytes).event ≡ Stepped after (answer.ChunkRead bytes)
    → NoCollision j (entries ++ read_entry w g vsn m c bytes ∷ [])
    → ReadPart k.history.contents b.0 c bytes ⊎ OtherSum c bytes

-- the entry of a recall that begins
abbrev pub begin_entry : ℕ → ℕ → List ℕ → ℕ → Bfid → ℕ → List GroupId → RunEntry
begin_entry v request path number b len groups = record {
  worker = v;
  event = event.Call (call.Daemon (daemon_call.BeginRecall path request));
  answer = answer.RecallBegun number b len groups;
}

-- a recall that began in a run, and ends behind it with no stop between, is answered as the plain namespace has the path then at
-- which it was begun
abbrev pub RecallsAnswered : Joint → List RunEntry → Joint → Type 0
RecallsAnswered j entries i =
    (begun k after : Joint) (v w request number len : ℕ) (path : List ℕ) (b : Bfid) (groups : List GroupId) (later : List RunEntry)
    (bytes given : List ℕ) (now : Secs)
    → step i v (begin_entry v request path number b len groups).event ≡ Stepped begun (begin_entry v request path number b len groups).answer
    → AllByRecursion (λ e. GoesOn e.event) later → Run begun later k
    → step k w (event.Call (call.Daemon (daemon_call.EndRecall request bytes now))) ≡ Stepped after (answer.Recalled given)
    → let whole = entries ++ begin_entry v request path number b len groups ∷ later in
    NoCollision j whole → bytes_of path (plain_run (run_steps j whole) (plain_of j)) ≡ Some given
