-- What the reads of users answer.
use Rattle.std.specs.Prelude.{◌≡◌, ◌≢◌, ◌⊎◌, ℕ, true, Some, List, [], ◌∷◌, length}
use Rattle.std.specs.FinMap as map
use Rattle.dm_base.specs.declared.identifier.Bfid.{Bfid}
use Rattle.dm_base.specs.declared.identifier.GroupId.{GroupId}
use Rattle.dm_base.specs.declared.identifier.Secs.{Secs}
use Rattle.dm_base.specs.declared.serial.Vsn.{Vsn}
use Rattle.dm_base.specs.declared.volume.Chunk.{Chunk}
use Rattle.dm_durable.specs.Tables.{ByNumber}
use Rattle.dm_model.specs.declared.answer.Answer.TheVariants as answer
use Rattle.dm_model.specs.declared.call.Call.TheVariants as call
use Rattle.dm_model.specs.declared.call.DaemonCall.TheVariants as daemon_call
use Rattle.dm_model.specs.declared.call.Event.TheVariants as event
use Rattle.dm_model.specs.declared.call.VolumeCall.TheVariants as volume_call
use Rattle.dm_model.specs.declared.state.Joint.{Joint}
use Rattle.dm_model.specs.declared.state.MountState.{MountState}
use Rattle.dm_model.specs.declared.state.OpenRequest.{OpenRequest}
use Rattle.dm_model.specs.declared.state.Origin.{Origin}
use Rattle.dm_model.specs.declared.state.Origin.TheVariants as origin
use Rattle.dm_model.specs.declared.state.Side.{Side}
use Rattle.dm_model.specs.GroupCalls.{part_of}
use Rattle.dm_model.specs.Hashed.{SumsTellApart}
use Rattle.dm_model.specs.Step.{Stepped, step}
use Rattle.dm_plain.specs.Namespace.{Namespace, bytes_of}
use Rattle.dm_invariant.specs.Moves.{ReadPart}
use Rattle.sha2.specs.Sha256.{sha256}

-- ---- files

-- a file whose bytes are on the disk is answered as the namespace has it
abbrev pub OnlineRight : Joint → Namespace → Type 0
OnlineRight j ns =
    (w k : ℕ) (path bytes : List ℕ) (after : Joint)
    → step j w (event.Call (call.Daemon (daemon_call.BeginRecall path k))) ≡ Stepped after (answer.Online bytes)
    → bytes_of path ns ≡ Some bytes

-- the request is of the file that the namespace has these bytes of
pub record FileOf (j : Joint) (ns : Namespace) (r : OpenRequest) (bytes : List ℕ) : Type 0 where
  pub path : List ℕ
  pub name : map.get j.daemon.tables.names path ≡ Some r.ino
  pub holds : bytes_of path ns ≡ Some bytes

-- so is one that was recalled
abbrev pub RecalledRight : Joint → Namespace → Type 0
RecalledRight j ns =
    (w k : ℕ) (bytes given : List ℕ) (now : Secs) (after : Joint)
    → step j w (event.Call (call.Daemon (daemon_call.EndRecall k bytes now))) ≡ Stepped after (answer.Recalled given)
    → (r : OpenRequest) → map.get j.daemon.requests k ≡ Some r → FileOf j ns r given

-- ---- chunks

-- a mount was made to read this chunk of the bitfile: for a recall, or for a move
abbrev pub IsForChunk : Bfid → Chunk → Origin → Type 0
IsForChunk b c (origin.New listed format) = ⊥
IsForChunk b c (origin.Piece d index p chunk) = ⊥
IsForChunk b c (origin.Chunk d e) = (d ≡ b) × (e ≡ c)
IsForChunk b c (origin.Source job d e) = (d ≡ b) × (e ≡ c)
IsForChunk b c (origin.Target job d total e version) = ⊥
IsForChunk b c (origin.Reuse next_epoch version reading) = ⊥

-- what is known of bytes that a read of the whole chunk gave: they are the chunk's part of the content where reads of the
-- mount give what is known; and where the chunk has a sum and they have it, they are the part unless the part is
-- another list of their length with their sum
pub record ReadKnown (contents : ByNumber (List ℕ)) (b : ℕ) (c : Chunk) (x : MountState) (bytes : List ℕ) : Type 0 where
  pub whole : List ℕ
  pub content : map.get contents b ≡ Some whole
  pub len : length bytes ≡ c.len
  pub bound : x.bound ≡ true → part_of whole c.offset c.len ≡ bytes
  pub summed : (sum : List ℕ) → c.sum ≡ Some sum → sha256 bytes ≡ sum
      → SumsTellApart (bytes ∷ part_of whole c.offset c.len ∷ []) → part_of whole c.offset c.len ≡ bytes

-- so is each read, in this state, of the chunk that a mount was made for
abbrev pub ChunksRight : Joint → Type 0
ChunksRight j =
    (w m : ℕ) (g : GroupId) (vsn : Vsn) (b : Bfid) (c : Chunk) (bytes : List ℕ) (s : Side) (x : MountState) (after : Joint)
    → map.get j.sides g.0 ≡ Some s → map.get s.mounts m ≡ Some x → IsForChunk b c x.origin
    → step j w (event.Call (call.Volume g vsn (volume_call.ReadChunk m c.place c.len bytes))) ≡ Stepped after (answer.ChunkRead bytes)
    → ReadKnown j.history.contents b.0 c x bytes

-- the chunk has a sum, which the bytes haven't
abbrev pub OtherSum : Chunk → List ℕ → Type 0
OtherSum c bytes = (sum : List ℕ) × (c.sum ≡ Some sum) × (sha256 bytes ≢ sum)

-- each such read gives the chunk's part of the content, or bytes without the chunk's sum, where the part is no other list of the
-- length of the bytes with their sum
abbrev pub ChunksTold : Joint → Type 0
ChunksTold j =
    (w m : ℕ) (g : GroupId) (vsn : Vsn) (b : Bfid) (c : Chunk) (bytes : List ℕ) (s : Side) (x : MountState) (after : Joint)
    → map.get j.sides g.0 ≡ Some s → map.get s.mounts m ≡ Some x → IsForChunk b c x.origin
    → step j w (event.Call (call.Volume g vsn (volume_call.ReadChunk m c.place c.len bytes))) ≡ Stepped after (answer.ChunkRead bytes)
    → ((whole : List ℕ) → map.get j.history.contents b.0 ≡ Some whole → SumsTellApart (bytes ∷ part_of whole c.offset c.len ∷ []))
    → ReadPart j.history.contents b.0 c bytes ⊎ OtherSum c bytes
