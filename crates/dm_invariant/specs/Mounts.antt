-- The invariant, of the mounts of a group.
use Rattle.std.specs.Prelude.{◌≡◌, ◌≤◌, ◌<◌, ℕ, Bool, true, None, Some}
use Rattle.std.specs.Option.{option_map}
use Rattle.std.specs.FinMap as map
use Rattle.dm_base.specs.declared.conf.GroupConf.{GroupConf}
use Rattle.dm_base.specs.declared.identifier.Bfid.{Bfid}
use Rattle.dm_base.specs.declared.serial.Vsn.{Vsn}
use Rattle.dm_base.specs.declared.volume.Chunk.{Chunk}
use Rattle.dm_base.specs.declared.volume.Piece.{Piece}
use Rattle.dm_tables.specs.Rows.{EachRow}
use Rattle.dm_durable.specs.declared.group.VolumeRow.{VolumeRow}
use Rattle.dm_durable.specs.Tables.{ByNumber, ByName}
use Rattle.dm_durable.specs.Volumes.{epoch_or}
use Rattle.dm_model.specs.declared.state.CopyReservation.{CopyReservation}
use Rattle.dm_model.specs.declared.state.CopyState.{CopyState}
use Rattle.dm_model.specs.declared.state.Mounted.{Mounted}
use Rattle.dm_model.specs.declared.state.MountState.{MountState}
use Rattle.dm_model.specs.declared.state.Moving.{Moving}
use Rattle.dm_model.specs.declared.state.Origin.{Origin}
use Rattle.dm_model.specs.declared.state.Origin.TheVariants as origin
use Rattle.dm_model.specs.declared.state.Reserved.{Reserved}
use Rattle.dm_model.specs.declared.state.Reusing.{Reusing}
use Rattle.dm_model.specs.GroupCalls.{piece_at}
use Rattle.dm_invariant.specs.Volumes.{IsOfConf}

-- what the group has of a mount
abbrev pub mounted_of : MountState → Mounted
mounted_of x = record { vsn = x.vsn; epoch = x.epoch }

-- the mount of a piece is one of the copy's reservation, which has that piece on that volume
pub record PieceMount (reservations : ByNumber Reserved) (copies : ByNumber CopyState) (m b index : ℕ) (p : Piece) (chunk : ℕ)
    (vsn : Vsn) : Type 0 where
  pub copy : CopyState
  pub is : map.get copies b ≡ Some copy
  pub held : CopyReservation
  pub has : copy.reservation ≡ Some held
  pub mount : map.get held.mounts m ≡ Some index
  pub reserved : Reserved
  pub there : map.get reservations held.number ≡ Some reserved
  pub same : reserved.bfid.0 ≡ b
  pub cut : reserved.chunk ≡ chunk
  pub piece : piece_at index reserved.pieces ≡ Some p
  pub volume : p.vsn ≡ vsn

-- the mount of a chunk that is moved is the source of an open move
pub record SourceMount (moves : ByNumber Moving) (m job : ℕ) (b : Bfid) (c : Chunk) (vsn : Vsn) : Type 0 where
  pub moving : Moving
  pub is : map.get moves job ≡ Some moving
  pub source : moving.source ≡ m
  pub bfid : moving.bfid ≡ b
  pub from : moving.from ≡ c
  pub volume : c.vsn ≡ vsn

-- and that of where it goes is the target
pub record TargetMount (moves : ByNumber Moving) (m job : ℕ) (b : Bfid) (total : ℕ) (c : Chunk) (version : ℕ) (vsn : Vsn) : Type 0 where
  pub moving : Moving
  pub is : map.get moves job ≡ Some moving
  pub target : moving.target ≡ m
  pub bfid : moving.bfid ≡ b
  pub whole : moving.total ≡ total
  pub to : moving.to ≡ c
  pub same : moving.version ≡ version
  pub volume : c.vsn ≡ vsn

-- the mount of a volume that is used again is that of an open reuse
pub record ReuseMount (reuses : ByNumber Reusing) (m next_epoch version : ℕ) (vsn : Vsn) : Type 0 where
  pub reusing : Reusing
  pub is : map.get reuses m ≡ Some reusing
  pub next : reusing.next_epoch ≡ next_epoch
  pub same : reusing.version ≡ version
  pub volume : reusing.vsn ≡ vsn

-- a mount of any volume is of one of the configuration, and has the format that a new volume gets
pub record NewMount (conf : GroupConf) (format : ℕ) (vsn : Vsn) : Type 0 where
  pub configured : IsOfConf conf vsn.0
  pub same : format ≡ conf.format

-- what a mount was made for is there
abbrev pub OriginKept : GroupConf → ByNumber Reserved → ByNumber CopyState → ByNumber Moving → ByNumber Reusing → ℕ → Vsn → Origin → Type 0
OriginKept conf reservations copies moves reuses m vsn (origin.New listed format) = NewMount conf format vsn
OriginKept conf reservations copies moves reuses m vsn (origin.Piece b index p chunk) = PieceMount reservations copies m b.0 index p chunk vsn
OriginKept conf reservations copies moves reuses m vsn (origin.Chunk b c) = c.vsn ≡ vsn
OriginKept conf reservations copies moves reuses m vsn (origin.Source job b c) = SourceMount moves m job b c vsn
OriginKept conf reservations copies moves reuses m vsn (origin.Target job b total c version) = TargetMount moves m job b total c version vsn
OriginKept conf reservations copies moves reuses m vsn (origin.Reuse next_epoch version reading) = ReuseMount reuses m next_epoch version vsn

-- a chunk that is read under a mount has bytes; and where it has no sum, reads of the mount give what is known
pub record ReadsChunk (c : Chunk) (bound : Bool) : Type 0 where
  pub some : 0 < c.len
  pub known : c.sum ≡ None → bound ≡ true

abbrev pub MayRead : Origin → Bool → Type 0
MayRead (origin.New listed format) bound = Unit {0}
MayRead (origin.Piece b index p chunk) bound = Unit {0}
MayRead (origin.Chunk b c) bound = ReadsChunk c bound
MayRead (origin.Source job b c) bound = ReadsChunk c bound
MayRead (origin.Target job b total c version) bound = Unit {0}
MayRead (origin.Reuse next_epoch version reading) bound = Unit {0}

-- what is kept of mounts
pub record MountsKept (conf : GroupConf) (volumes : ByName VolumeRow) (reservations : ByNumber Reserved) (copies : ByNumber CopyState)
    (moves : ByNumber Moving) (reuses : ByNumber Reusing) (group_mounts : ByNumber Mounted) (next : ℕ) (mounts : ByNumber MountState) : Type 0 where
  pub numbers : EachRow mounts (λ m x. m < next)
  -- the group has what the mounts have
  pub same : (m : ℕ) → map.get group_mounts m ≡ option_map mounted_of (map.get mounts m)
  pub epoch : EachRow mounts (λ m x. x.epoch ≡ epoch_or (map.get volumes x.vsn.0))
  -- a volume has one mount, and no more are mounted than there are drives
  pub apart : (m n : ℕ) (x y : MountState) → map.get mounts m ≡ Some x → map.get mounts n ≡ Some y → x.vsn.0 ≡ y.vsn.0 → m ≡ n
  pub drives : map.len group_mounts ≤ conf.drives
  pub origin : EachRow mounts (λ m x. OriginKept conf reservations copies moves reuses m x.vsn x.origin)
  pub reads : EachRow mounts (λ m x. MayRead x.origin x.bound)
