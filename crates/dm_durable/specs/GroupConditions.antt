-- When a record may follow in a group's tables. A journal in which a record's condition is false is damaged.
use Rattle.std.specs.Prelude.{◌≡◌, ℕ, ◌+◌, ◌<◌, ◌≤◌, false, None, Some, is_some, IsSome, List, [], ◌∷◌, ◌⊎◌}
use Rattle.std.specs.FinMap as map
use Rattle.dm_base.specs.declared.volume.Chunk.{Chunk}
use Rattle.dm_base.specs.Limits.{volumes_limit, epoch_limit}
use Rattle.dm_durable.specs.declared.group.VolumeRow.{VolumeRow}
use Rattle.dm_durable.specs.declared.group.BitfileRow.{BitfileRow}
use Rattle.dm_durable.specs.declared.group.GroupTables.{GroupTables}
use Rattle.dm_durable.specs.declared.group.GroupStep.{GroupStep}
use Rattle.dm_durable.specs.declared.group.GroupStep.TheVariants.{Volume, Commit, Delete, Move, Free, Reuse}
use Rattle.dm_durable.specs.declared.group.GroupRecord.{GroupRecord}
use Rattle.dm_rules.specs.Label.{first_zone}
use Rattle.dm_rules.specs.Version.{IsVersion, has_sum}
use Rattle.dm_tables.specs.Rows.{EachRow}
use Rattle.dm_durable.specs.Tables.{ByName}
use Rattle.dm_durable.specs.Limits.{IsVolumeSize}
use Rattle.dm_durable.specs.Group.{chunk_at, has_chunk_on}

-- ---- chunks

-- the chunks are whole bytes of a bitfile from one offset to another: each begins where the one before ends
abbrev pub Joins : ℕ → List Chunk → ℕ → Type 0
Joins from [] to = from ≡ to
Joins from (c ∷ cs) to = (c.offset ≡ from) × (0 < c.len) × Joins (from + c.len) cs to

-- a chunk has a sum exactly where the version of its volume is one of chunks with sums
pub record IsOfVersion (volumes : ByName VolumeRow) (c : Chunk) : Type 0 where
  pub volume : VolumeRow
  pub is : map.get volumes c.vsn.0 ≡ Some volume
  pub sum : is_some c.sum ≡ has_sum volume.version

-- a chunk lies behind the label of a volume that may be written, and has a sum exactly where that volume's chunks do
pub record LiesOn (volumes : ByName VolumeRow) (c : Chunk) : Type 0 where
  pub volume : VolumeRow
  pub is : map.get volumes c.vsn.0 ≡ Some volume
  pub usable : volume.held ≡ None
  pub behind : first_zone ≤ c.place
  pub within : c.place + c.len ≤ volume.size
  pub sum : is_some c.sum ≡ has_sum volume.version

abbrev pub EachLies : ByName VolumeRow → List Chunk → Type 0
EachLies volumes [] = Unit {0}
EachLies volumes (c ∷ cs) = LiesOn volumes c × EachLies volumes cs

-- a bitfile of this length may stand in these chunks
pub record MayStand (volumes : ByName VolumeRow) (len : ℕ) (chunks : List Chunk) : Type 0 where
  pub joins : Joins 0 chunks len
  pub lies : EachLies volumes chunks

-- ---- bitfiles

pub record MayCommit (t : GroupTables) (b len : ℕ) (chunks : List Chunk) : Type 0 where
  pub new : map.get t.bitfiles b ≡ None
  pub stands : MayStand t.volumes len chunks

pub record MayMove (t : GroupTables) (b : ℕ) (from to : Chunk) : Type 0 where
  pub row : BitfileRow
  pub is : map.get t.bitfiles b ≡ Some row
  pub has : chunk_at from.offset row.chunks ≡ Some from
  pub old : IsOfVersion t.volumes from
  pub offset : to.offset ≡ from.offset
  pub len : to.len ≡ from.len
  pub lies : LiesOn t.volumes to

-- ---- volumes

pub record MayAdd (t : GroupTables) (vsn : List ℕ) (slot version size : ℕ) : Type 0 where
  pub new : map.get t.volumes vsn ≡ None
  pub within : slot < volumes_limit
  pub free : EachRow t.volumes (λ v row. row.slot ≡ slot → ⊥)
  pub known : IsVersion version
  pub room : IsVolumeSize size

pub record MayFree (t : GroupTables) (vsn : List ℕ) : Type 0 where
  pub volume : VolumeRow
  pub is : map.get t.volumes vsn ≡ Some volume
  pub usable : volume.held ≡ None
  pub dead : has_chunk_on t.bitfiles vsn ≡ false

pub record MayReuse (t : GroupTables) (vsn : List ℕ) (epoch version : ℕ) : Type 0 where
  pub volume : VolumeRow
  pub is : map.get t.volumes vsn ≡ Some volume
  pub ready : IsSome volume.held ⊎ (volume.end ≡ first_zone)
  pub dead : has_chunk_on t.bitfiles vsn ≡ false
  pub next : epoch ≡ volume.epoch + 1
  pub left : volume.epoch < epoch_limit
  pub known : IsVersion version

-- ---- all steps

abbrev pub MayGroupStep : GroupTables → GroupStep → Type 0
MayGroupStep t (Volume vsn slot version size) = MayAdd t vsn.0 slot version size
MayGroupStep t (Commit b len chunks) = MayCommit t b.0 len chunks
MayGroupStep t (Delete b) = IsSome (map.get t.bitfiles b.0)
MayGroupStep t (Move b from to) = MayMove t b.0 from to
MayGroupStep t (Free vsn) = MayFree t vsn.0
MayGroupStep t (Reuse vsn epoch version) = MayReuse t vsn.0 epoch version

pub record MayGroupFollow (t : GroupTables) (r : GroupRecord) : Type 0 where
  pub time : t.time.0 ≤ r.time.0
  pub step : MayGroupStep t r.step
