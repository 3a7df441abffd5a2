-- Which byte lists are hashed in a run.
--
-- A law that speaks of sums supposes that no two of these that have one length have the same SHA-256. They are what the
-- program hashes: the bytes that a read of a chunk with a sum gave, under a mount that was made for that chunk; the parts
-- of a bitfile that a commit puts on volumes whose chunks have sums; and the bytes that are moved to such a volume. With
-- them go the parts of bitfiles that stand in chunks as the run begins.
use Rattle.std.specs.Prelude.{◌≡◌, ℕ, Bool, cond, ◌&&◌, Option, None, Some, is_some, List, [], ◌∷◌, ◌++◌, Contains, length, nat_eq}
use Rattle.std.specs.Prelude as prelude
use Rattle.std.specs.List.{flat_map}
use Rattle.std.specs.Option.{option_to_list}
use Rattle.std.specs.FinMap as map
use Rattle.dm_base.specs.declared.volume.Chunk.{Chunk}
use Rattle.dm_base.specs.declared.volume.Piece.{Piece}
use Rattle.dm_durable.specs.Tables.{ByNumber}
use Rattle.dm_model.specs.declared.call.Call.TheVariants as call
use Rattle.dm_model.specs.declared.call.Event.{Event}
use Rattle.dm_model.specs.declared.call.Event.TheVariants as event
use Rattle.dm_model.specs.declared.call.GroupCall.{GroupCall}
use Rattle.dm_model.specs.declared.call.GroupCall.TheVariants as group_call
use Rattle.dm_model.specs.declared.call.VolumeCall.{VolumeCall}
use Rattle.dm_model.specs.declared.call.VolumeCall.TheVariants as volume_call
use Rattle.dm_model.specs.declared.state.Joint.{Joint}
use Rattle.dm_model.specs.declared.state.MountState.{MountState}
use Rattle.dm_model.specs.declared.state.Moving.{Moving}
use Rattle.dm_model.specs.declared.state.Origin.{Origin}
use Rattle.dm_model.specs.declared.state.Origin.TheVariants as origin
use Rattle.dm_model.specs.declared.state.Reserved.{Reserved}
use Rattle.dm_model.specs.declared.state.Side.{Side}
use Rattle.dm_model.specs.GroupCalls.{part_of}
use Rattle.dm_model.specs.Step.{RunEntry, state_after, step}
use Rattle.dm_rules.specs.Plan.{chunks_of}
use Rattle.dm_rules.specs.Version.{has_sum}
use Rattle.sha2.specs.Sha256.{sha256}

-- ---- reads

-- the bytes of a read of the whole chunk, where the chunk has a sum
abbrev pub hashed_of_chunk : Chunk → ℕ → ℕ → List ℕ → List (List ℕ)
hashed_of_chunk c place n bytes = cond (nat_eq place c.place && nat_eq n c.len && is_some c.sum) (bytes ∷ []) []

abbrev pub hashed_of_read : Origin → ℕ → ℕ → List ℕ → List (List ℕ)
hashed_of_read (origin.New listed format) place n bytes = []
hashed_of_read (origin.Piece b index piece chunk) place n bytes = []
hashed_of_read (origin.Chunk b c) place n bytes = hashed_of_chunk c place n bytes
hashed_of_read (origin.Source job b c) place n bytes = hashed_of_chunk c place n bytes
hashed_of_read (origin.Target job b total c version) place n bytes = []
hashed_of_read (origin.Reuse next_epoch version reading) place n bytes = []

abbrev pub hashed_under : Option MountState → ℕ → ℕ → List ℕ → List (List ℕ)
hashed_under None place n bytes = []
hashed_under (Some x) place n bytes = hashed_of_read x.origin place n bytes

abbrev pub hashed_on_volume : Side → VolumeCall → List (List ℕ)
hashed_on_volume s (volume_call.WriteZone m place zone) = []
hashed_on_volume s (volume_call.ReadChunk m place n bytes) = hashed_under (map.get s.mounts m) place n bytes
hashed_on_volume s (volume_call.Relabel m epoch version) = []

-- ---- commits and moves

-- the parts of these bytes that the chunks of a piece are, if chunks there have sums
abbrev pub parts_of_piece : ℕ → List ℕ → Piece → List (List ℕ)
parts_of_piece chunk bytes p =
    cond (has_sum p.version) (prelude.map (λ c. part_of bytes c.offset c.len) (chunks_of chunk p)) []

abbrev pub hashed_of_content : Reserved → Option (List ℕ) → List (List ℕ)
hashed_of_content r None = []
hashed_of_content r (Some bytes) = flat_map (parts_of_piece r.chunk bytes) r.pieces

abbrev pub hashed_by_commit : ByNumber (List ℕ) → Option Reserved → List (List ℕ)
hashed_by_commit contents None = []
hashed_by_commit contents (Some r) = hashed_of_content r (map.get contents r.bfid.0)

abbrev pub bytes_read : Option MountState → List (List ℕ)
bytes_read None = []
bytes_read (Some x) = option_to_list x.read

abbrev pub hashed_by_move : ByNumber MountState → Option Moving → List (List ℕ)
hashed_by_move mounts None = []
hashed_by_move mounts (Some x) = cond (has_sum x.version) (bytes_read (map.get mounts x.source)) []

abbrev pub hashed_in_group : ByNumber (List ℕ) → Side → GroupCall → List (List ℕ)
hashed_in_group contents s (group_call.Commit n sums now) = hashed_by_commit contents (map.get s.group.reservations n)
hashed_in_group contents s (group_call.MoveDone job sum now) = hashed_by_move s.mounts (map.get s.group.moves job)
hashed_in_group contents s c = []

-- ---- events and runs

abbrev pub hashed_by_group : Joint → GroupCall → Option Side → List (List ℕ)
hashed_by_group j c None = []
hashed_by_group j c (Some s) = hashed_in_group j.history.contents s c

abbrev pub hashed_by_volume : VolumeCall → Option Side → List (List ℕ)
hashed_by_volume c None = []
hashed_by_volume c (Some s) = hashed_on_volume s c

-- by an event, in the state before it. A call that failed hashed what it was given, and got no bytes
abbrev pub hashed_by_event : Joint → Event → List (List ℕ)
hashed_by_event j (event.Call (call.Daemon c)) = []
hashed_by_event j (event.Call (call.Group g c)) = hashed_by_group j c (map.get j.sides g.0)
hashed_by_event j (event.Call (call.Volume g vsn c)) = hashed_by_volume c (map.get j.sides g.0)
hashed_by_event j (event.Fault (call.Daemon c) healed checkpointed) = []
hashed_by_event j (event.Fault (call.Group g c) healed checkpointed) = hashed_by_group j c (map.get j.sides g.0)
hashed_by_event j (event.Fault (call.Volume g vsn c) healed checkpointed) = []
hashed_by_event j (event.Landed c) = []
hashed_by_event j (event.Look c) = []
hashed_by_event j event.Stop = []

abbrev pub hashed_in_run : Joint → List RunEntry → List (List ℕ)
hashed_in_run j [] = []
hashed_in_run j (e ∷ es) = hashed_by_event j e.event ++ hashed_in_run (state_after j (step j e.worker e.event)) es

-- ---- as the run begins

abbrev pub parts_in : List ℕ → List Chunk → List (List ℕ)
parts_in bytes chunks = prelude.map (λ c. part_of bytes c.offset c.len) chunks

abbrev pub parts_of_content : Option (List ℕ) → List Chunk → List (List ℕ)
parts_of_content None chunks = []
parts_of_content (Some bytes) chunks = parts_in bytes chunks

abbrev pub parts_on : ByNumber (List ℕ) → Side → List (List ℕ)
parts_on contents s =
    flat_map (λ e. parts_of_content (map.get contents e.0) e.1.chunks) (map.entries s.group.tables.bitfiles)

-- the parts of bitfiles that stand in chunks
abbrev pub parts_stored : Joint → List (List ℕ)
parts_stored j = flat_map (λ e. parts_on j.history.contents e.1) (map.entries j.sides)

-- no two different ones of these that have one length have the same sum
abbrev pub SumsTellApart : List (List ℕ) → Type 0
SumsTellApart lists =
    (x y : List ℕ) → Contains lists x → Contains lists y → length x ≡ length y → sha256 x ≡ sha256 y → x ≡ y

-- what a law supposes of a run
abbrev pub NoCollision : Joint → List RunEntry → Type 0
NoCollision j entries = SumsTellApart (parts_stored j ++ hashed_in_run j entries)
