-- The invariant, of the moves and the reuses of a group.
use Rattle.std.specs.Prelude.{◌≡◌, ◌≤◌, ◌<◌, ◌+◌, ℕ, Option, None, Some, List, length}
use Rattle.std.specs.FinMap as map
use Rattle.dm_base.specs.Limits.{epoch_limit}
use Rattle.dm_base.specs.declared.identifier.Secs.{Secs}
use Rattle.dm_base.specs.declared.volume.Chunk.{Chunk}
use Rattle.dm_rules.specs.Known.{known_bytes}
use Rattle.dm_rules.specs.Label.{first_zone}
use Rattle.dm_rules.specs.Numbers.{greater}
use Rattle.dm_rules.specs.Version.{IsVersion, chunk_header}
use Rattle.dm_rules.specs.Zone.{zone_header, weight}
use Rattle.dm_tables.specs.Rows.{EachRow}
use Rattle.dm_durable.specs.declared.group.VolumeRow.{VolumeRow}
use Rattle.dm_durable.specs.Tables.{ByNumber, ByName}
use Rattle.dm_durable.specs.Volumes.{tip_in}
use Rattle.dm_model.specs.declared.state.Image.{Image}
use Rattle.dm_model.specs.declared.state.MountState.{MountState}
use Rattle.dm_model.specs.declared.state.Moving.{Moving}
use Rattle.dm_model.specs.declared.state.Origin.TheVariants as origin
use Rattle.dm_model.specs.declared.state.Reusing.{Reusing}
use Rattle.dm_model.specs.GroupCalls.{part_of}
use Rattle.dm_invariant.specs.Assemble.{known_on}

-- ---- moves

-- the zone of a moved chunk lies behind the label of a volume of that version that isn't held, before its tip
pub record TargetInHand (volumes : ByName VolumeRow) (tips : ByName ℕ) (version : ℕ) (c : Chunk) : Type 0 where
  pub volume : VolumeRow
  pub is : map.get volumes c.vsn.0 ≡ Some volume
  pub usable : volume.held ≡ None
  pub same : version ≡ volume.version
  pub behind : first_zone ≤ c.zone
  pub within : c.zone + weight version c.len ≤ tip_in tips c.vsn.0 volume

-- the chunk is the one of the zone at its place
pub record IsMoved (version : ℕ) (from to : Chunk) : Type 0 where
  pub offset : to.offset ≡ from.offset
  pub len : to.len ≡ from.len
  pub place : to.place ≡ to.zone + zone_header + chunk_header version
  pub sum : to.sum ≡ None

-- bytes that were read of a chunk are its part of the content
pub record ReadPart (contents : ByNumber (List ℕ)) (b : ℕ) (c : Chunk) (bytes : List ℕ) : Type 0 where
  pub whole : List ℕ
  pub content : map.get contents b ≡ Some whole
  pub len : length bytes ≡ c.len
  pub part : part_of whole c.offset c.len ≡ bytes

abbrev pub ReadRight : ByNumber (List ℕ) → ℕ → Chunk → Option (List ℕ) → Type 0
ReadRight contents b c None = Unit {0}
ReadRight contents b c (Some bytes) = ReadPart contents b c bytes

-- a zone that was written for a moved chunk is known where it stands, and has its length
pub record TargetWritten (images : ByName Image) (version : ℕ) (c : Chunk) (zone : List ℕ) : Type 0 where
  pub len : length zone ≡ weight version c.len
  pub known : known_bytes (known_on images c.vsn.0) c.zone (length zone) ≡ Some zone

abbrev pub WrittenRight : ByName Image → ℕ → Chunk → Option (List ℕ) → Type 0
WrittenRight images version c None = Unit {0}
WrittenRight images version c (Some zone) = TargetWritten images version c zone

-- a move has its two mounts; what was read under the one is the chunk's part, and what was written under the other is known
pub record MoveKept (contents : ByNumber (List ℕ)) (volumes : ByName VolumeRow) (tips : ByName ℕ) (images : ByName Image)
    (mounts : ByNumber MountState) (job : ℕ) (x : Moving) : Type 0 where
  pub source : MountState
  pub source_is : map.get mounts x.source ≡ Some source
  pub source_for : source.origin ≡ origin.Source job x.bfid x.from
  pub target : MountState
  pub target_is : map.get mounts x.target ≡ Some target
  pub target_for : target.origin ≡ origin.Target job x.bfid x.total x.to x.version
  pub some : 0 < x.from.len
  pub moved : IsMoved x.version x.from x.to
  pub zone : TargetInHand volumes tips x.version x.to
  pub read : ReadRight contents x.bfid.0 x.from source.read
  pub written : WrittenRight images x.version x.to target.written

-- what is kept of moves
pub record MovesKept (contents : ByNumber (List ℕ)) (volumes : ByName VolumeRow) (tips : ByName ℕ) (images : ByName Image)
    (mounts : ByNumber MountState) (next : ℕ) (moves : ByNumber Moving) : Type 0 where
  pub numbers : EachRow moves (λ n x. n < next)
  pub moving : EachRow moves (MoveKept contents volumes tips images mounts)

-- ---- reuses

-- a volume may be used again: it was held long enough at this time, or it is empty
abbrev pub IsReadyAt : ℕ → ℕ → ℕ → Option Secs → Type 0
IsReadyAt now hold tip None = tip ≡ first_zone
IsReadyAt now hold tip (Some since) = since.0 + hold ≤ now

-- a reuse has its mount, and its volume was ready at the clock reading that began it
pub record ReuseKept (hold now : ℕ) (volumes : ByName VolumeRow) (tips : ByName ℕ) (mounts : ByNumber MountState) (m : ℕ) (x : Reusing) : Type 0 where
  pub mount : MountState
  pub is : map.get mounts m ≡ Some mount
  pub same : mount.vsn ≡ x.vsn
  pub reading : Secs
  pub made_for : mount.origin ≡ origin.Reuse x.next_epoch x.version reading
  pub volume : VolumeRow
  pub known : map.get volumes x.vsn.0 ≡ Some volume
  pub next : x.next_epoch ≡ volume.epoch + 1
  pub left : volume.epoch < epoch_limit
  pub version : IsVersion x.version
  pub ready : IsReadyAt (greater reading.0 now) hold (tip_in tips x.vsn.0 volume) volume.held

-- what is kept of reuses
abbrev pub ReusesKept : ℕ → ℕ → ByName VolumeRow → ByName ℕ → ByNumber MountState → ByNumber Reusing → Type 0
ReusesKept hold now volumes tips mounts reuses = EachRow reuses (ReuseKept hold now volumes tips mounts)
