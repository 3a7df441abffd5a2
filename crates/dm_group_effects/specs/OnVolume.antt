-- Events on a volume: its calls, and those of them that fail. And what is supposed of one that reads.
use Rattle.std.specs.Prelude.{ℕ, Option, None, Some, List, [], ◌∷◌, ◌++◌}
use Rattle.std.specs.FinMap as map
use Rattle.dm_durable.specs.Tables.{ByNumber}
use Rattle.dm_model.specs.declared.call.Call.{Call}
use Rattle.dm_model.specs.declared.call.Call.TheVariants as call
use Rattle.dm_model.specs.declared.call.Event.{Event}
use Rattle.dm_model.specs.declared.call.Event.TheVariants as event
use Rattle.dm_model.specs.declared.call.VolumeCall.{VolumeCall}
use Rattle.dm_model.specs.declared.call.VolumeCall.TheVariants as volume_call
use Rattle.dm_model.specs.declared.state.Joint.{Joint}
use Rattle.dm_model.specs.declared.state.MountState.{MountState}
use Rattle.dm_model.specs.declared.state.Origin.{Origin}
use Rattle.dm_model.specs.declared.state.Origin.TheVariants as origin
use Rattle.dm_model.specs.declared.state.Side.{Side}
use Rattle.dm_model.specs.Hashed.{SumsTellApart, hashed_by_event, parts_of_content}
use Rattle.dm_model.specs.Step.{RunEntry, state_after, step}

abbrev pub IsVolumeCall : Call → Type 0
IsVolumeCall (call.Daemon c) = ⊥
IsVolumeCall (call.Group g c) = ⊥
IsVolumeCall (call.Volume g vsn c) = Unit {0}

abbrev pub IsOnVolume : Event → Type 0
IsOnVolume (event.Call c) = IsVolumeCall c
IsOnVolume (event.Fault c healed checkpointed) = IsVolumeCall c
IsOnVolume (event.Landed c) = ⊥
IsOnVolume (event.Look c) = ⊥
IsOnVolume event.Stop = ⊥

-- ---- the part of a bitfile that a read is of

-- that of the chunk which a mount was made for
abbrev pub parts_of_origin : ByNumber (List ℕ) → Origin → List (List ℕ)
parts_of_origin contents (origin.New listed format) = []
parts_of_origin contents (origin.Piece b index p chunk) = []
parts_of_origin contents (origin.Chunk b c) = parts_of_content (map.get contents b.0) (c ∷ [])
parts_of_origin contents (origin.Source job b c) = parts_of_content (map.get contents b.0) (c ∷ [])
parts_of_origin contents (origin.Target job b total c version) = []
parts_of_origin contents (origin.Reuse next_epoch version reading) = []

abbrev pub parts_under : ByNumber (List ℕ) → Option MountState → List (List ℕ)
parts_under contents None = []
parts_under contents (Some x) = parts_of_origin contents x.origin

abbrev pub parts_on_volume : ByNumber (List ℕ) → Side → VolumeCall → List (List ℕ)
parts_on_volume contents s (volume_call.WriteZone m place zone) = []
parts_on_volume contents s (volume_call.ReadChunk m place n bytes) = parts_under contents (map.get s.mounts m)
parts_on_volume contents s (volume_call.Relabel m epoch version) = []

abbrev pub parts_by_volume : ByNumber (List ℕ) → VolumeCall → Option Side → List (List ℕ)
parts_by_volume contents c None = []
parts_by_volume contents c (Some s) = parts_on_volume contents s c

-- that of an event, in the state before it
abbrev pub parts_read_by : Joint → Event → List (List ℕ)
parts_read_by j (event.Call (call.Daemon c)) = []
parts_read_by j (event.Call (call.Group g c)) = []
parts_read_by j (event.Call (call.Volume g vsn c)) = parts_by_volume j.history.contents c (map.get j.sides g.0)
parts_read_by j (event.Fault c healed checkpointed) = []
parts_read_by j (event.Landed c) = []
parts_read_by j (event.Look c) = []
parts_read_by j event.Stop = []

-- the bytes that a read gave and hashed, and the part of the bitfile that it is of, aren't two lists with one length and one sum
abbrev pub ReadTellsApart : Joint → Event → Type 0
ReadTellsApart j e = SumsTellApart (parts_read_by j e ++ hashed_by_event j e)

-- so it is of each read of a run
abbrev pub ReadsTellApart : Joint → List RunEntry → Type 0
ReadsTellApart j [] = Unit {0}
ReadsTellApart j (e ∷ es) = ReadTellsApart j e.event × ReadsTellApart (state_after j (step j e.worker e.event)) es
