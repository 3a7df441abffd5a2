-- What the payloads of a group's journal tell: its tables.
--
-- A journal is the payloads of a log, or the rows of a state that a checkpoint wrote and then the payloads of a log. It is
-- damaged where it isn't a beginning and then payloads that may each follow.
use Rattle.std.specs.Prelude.{◌≡◌, ℕ, ◌<◌, ◌≤◌, Option, None, Some, IsSome, List, [], ◌∷◌, ◌++◌, ◌⊎◌}
use Rattle.std.specs.Prelude as prelude
use Rattle.std.specs.FinMap as map
use Rattle.dm_base.specs.declared.identifier.GroupId.{GroupId}
use Rattle.dm_base.specs.declared.identifier.Secs.{Secs}
use Rattle.dm_base.specs.Limits.{volumes_limit}
use Rattle.dm_durable.specs.declared.group.BitfileRow.{BitfileRow}
use Rattle.dm_durable.specs.declared.group.GroupStep.{GroupStep}
use Rattle.dm_durable.specs.declared.group.GroupStep.TheVariants.{Reuse}
use Rattle.dm_durable.specs.declared.group.GroupTables.{GroupTables}
use Rattle.dm_durable.specs.declared.group.VolumeRow.{VolumeRow}
use Rattle.dm_durable.specs.declared.group_journal.GroupPayload.{GroupPayload}
use Rattle.dm_durable.specs.declared.group_journal.GroupPayload.TheVariants.{Head, Record, OldRecord, Row}
use Rattle.dm_durable.specs.declared.group_journal.GroupRow.{GroupRow}
use Rattle.dm_durable.specs.declared.group_journal.GroupRow.TheVariants as row
use Rattle.dm_rules.specs.Label.{first_zone}
use Rattle.dm_rules.specs.Version.{IsVersion, first_version}
use Rattle.dm_tables.specs.Rows.{EachRow}
use Rattle.dm_durable.specs.Tables.{ByName}
use Rattle.dm_durable.specs.Limits.{IsGroupNumber, IsVolumeSize, IsPast}
use Rattle.dm_durable.specs.Fields.{IsOldStep}
use Rattle.dm_durable.specs.Group.{empty_group, group_after_record}
use Rattle.dm_durable.specs.GroupConditions.{MayGroupFollow, MayStand}

-- ---- a log

-- the volume of a serial number is held
pub record IsHeld (volumes : ByName VolumeRow) (vsn : List ℕ) : Type 0 where
  pub volume : VolumeRow
  pub is : map.get volumes vsn ≡ Some volume
  pub held : IsSome volume.held

-- only a held volume was used again before there were versions
abbrev pub MayBeOld : GroupTables → GroupStep → Type 0
MayBeOld t (Reuse vsn epoch version) = IsOldStep (Reuse vsn epoch version) × IsHeld t.volumes vsn.0
MayBeOld t step = IsOldStep step

-- a payload may be next in a log
abbrev pub MayGroupCome : GroupTables → GroupPayload → Type 0
MayGroupCome t (Head time group) = ⊥
MayGroupCome t (Record r) = MayGroupFollow t r
MayGroupCome t (OldRecord r) = MayGroupFollow t r × MayBeOld t r.step
MayGroupCome t (Row r) = ⊥

abbrev pub group_after_payload : GroupTables → GroupPayload → GroupTables
group_after_payload t (Head time group) = t
group_after_payload t (Record r) = group_after_record t r
group_after_payload t (OldRecord r) = group_after_record t r
group_after_payload t (Row r) = t

-- each payload may be next, and the last one leaves the tables u
abbrev pub GroupContinues : GroupTables → List GroupPayload → GroupTables → Type 0
GroupContinues t [] u = t ≡ u
GroupContinues t (p ∷ ps) u = MayGroupCome t p × GroupContinues (group_after_payload t p) ps u

-- ---- the head of a journal without a checkpoint

abbrev pub group_tables_of_head : Secs → GroupId → GroupTables
group_tables_of_head time group = record (empty_group group) { time = time }

-- ---- the rows of a state

abbrev pub volume_row : List ℕ × VolumeRow → GroupRow
volume_row e = row.Volume (record { 0 = e.0 }) e.1

abbrev pub bitfile_row : ℕ × BitfileRow → GroupRow
bitfile_row e = row.Bitfile (record { 0 = e.0 }) e.1

abbrev pub old_volume_row : List ℕ × VolumeRow → GroupRow
old_volume_row e = row.OldVolume (record { 0 = e.0 }) e.1

abbrev pub old_bitfile_row : ℕ × BitfileRow → GroupRow
old_bitfile_row e = row.OldBitfile (record { 0 = e.0 }) e.1

-- the rows of a state, as a checkpoint writes them: volumes by serial number, and bitfiles by identifier
abbrev pub group_rows_of : GroupTables → List GroupRow
group_rows_of t =
    row.State t.time t.group ∷ prelude.map volume_row (map.entries t.volumes) ++ prelude.map bitfile_row (map.entries t.bitfiles)

-- the same as they were spelled before there were versions and sums
abbrev pub old_group_rows_of : GroupTables → List GroupRow
old_group_rows_of t =
    row.State t.time t.group ∷ prelude.map old_volume_row (map.entries t.volumes) ++ prelude.map old_bitfile_row (map.entries t.bitfiles)

pub record MayBeVolume (now : ℕ) (v : VolumeRow) : Type 0 where
  pub slot : v.slot < volumes_limit
  pub version : IsVersion v.version
  pub size : IsVolumeSize v.size
  pub epoch : 1 ≤ v.epoch
  pub behind : first_zone ≤ v.end
  pub within : v.end ≤ v.size
  pub freed : IsPast now v.held

-- rows tell of a state of a group: the numbers are within their limits, no two volumes have one slot, and each bitfile
-- stands on the volumes
pub record MayBeGroupState (t : GroupTables) : Type 0 where
  pub group : IsGroupNumber t.group.0
  pub volumes : EachRow t.volumes (λ vsn v. MayBeVolume t.time.0 v)
  pub slots : (v w : List ℕ) (x y : VolumeRow) → map.get t.volumes v ≡ Some x → map.get t.volumes w ≡ Some y → x.slot ≡ y.slot → v ≡ w
  pub bitfiles : EachRow t.bitfiles (λ b r. MayStand t.volumes r.len r.chunks)

-- each volume has version 1
abbrev pub IsOfFirstVersion : GroupTables → Type 0
IsOfFirstVersion t = EachRow t.volumes (λ vsn v. v.version ≡ first_version)

-- ---- whole journals

-- payloads begin the journal of a group: a head, or the rows of a state
pub record GroupBeginsByHead (ps : List GroupPayload) (t : GroupTables) : Type 0 where
  pub time : Secs
  pub is : ps ≡ Head time t.group ∷ []
  pub group : IsGroupNumber t.group.0
  pub tables : t ≡ group_tables_of_head time t.group

pub record GroupBeginsByRows (ps : List GroupPayload) (t : GroupTables) : Type 0 where
  pub is : ps ≡ prelude.map Row (group_rows_of t)
  pub may : MayBeGroupState t

pub record GroupBeginsByOldRows (ps : List GroupPayload) (t : GroupTables) : Type 0 where
  pub is : ps ≡ prelude.map Row (old_group_rows_of t)
  pub may : MayBeGroupState t
  pub old : IsOfFirstVersion t

abbrev pub GroupBegins : List GroupPayload → GroupTables → Type 0
GroupBegins ps t = GroupBeginsByHead ps t ⊎ (GroupBeginsByRows ps t ⊎ GroupBeginsByOldRows ps t)

-- the payloads tell of a group's tables; whose they are, the tables say
pub record GroupTells (ps : List GroupPayload) (t : GroupTables) : Type 0 where
  pub front : List GroupPayload
  pub rest : List GroupPayload
  pub is : ps ≡ front ++ rest
  pub begun : GroupTables
  pub begins : GroupBegins front begun
  pub continues : GroupContinues begun rest t
