-- What each row of a checkpoint of a group is spelled as: its kind in one byte, and these fields.
use Rattle.std.specs.Prelude.{◌≡◌, ℕ, Option, List, ◌∷◌, ◌++◌}
use Rattle.dm_base.specs.declared.identifier.Secs.{Secs}
use Rattle.dm_durable.specs.Fields.{FitsGroupRow}
use Rattle.dm_durable.specs.declared.group.VolumeRow.{VolumeRow}
use Rattle.dm_durable.specs.declared.group_journal.GroupRow.{GroupRow}
use Rattle.dm_durable.specs.declared.group_journal.GroupRow.TheVariants.{State, Volume, Bitfile, OldVolume, OldBitfile}
use Rattle.dm_fields.specs.Fields.{byte_field, chunk_field, longer_chunk_field, list_field, moment_field}
use Rattle.dm_fields.specs.Numbers.{be64}
use Rattle.dm_group_records.specs.Steps.{bfid_field, serial_field}
use Rattle.dm_group_records.specs.declared.rows.RowOf.{RowOf}
use Rattle.dm_group_records.specs.declared.rows.RowOf.TheVariants as lent

abbrev pub row_byte : GroupRow → ℕ
row_byte (State time group) = 40
row_byte (Volume vsn v) = 43
row_byte (Bitfile b r) = 44
row_byte (OldVolume vsn v) = 41
row_byte (OldBitfile b r) = 42

abbrev pub row_fields : GroupRow → List ℕ
row_fields (State time group) = be64 time.0 ++ byte_field group.0
row_fields (Volume vsn v) =
    serial_field vsn ++ (byte_field v.slot ++ (byte_field v.version ++ (be64 v.size ++ (be64 v.epoch ++ (be64 v.end ++ moment_field v.held)))))
row_fields (Bitfile b r) = bfid_field b ++ (be64 r.len ++ list_field longer_chunk_field r.chunks)
row_fields (OldVolume vsn v) =
    serial_field vsn ++ (byte_field v.slot ++ (be64 v.size ++ (be64 v.epoch ++ (be64 v.end ++ moment_field v.held))))
row_fields (OldBitfile b r) = bfid_field b ++ (be64 r.len ++ list_field chunk_field r.chunks)

abbrev pub row_spelling : GroupRow → List ℕ
row_spelling r = row_byte r ∷ row_fields r

-- a row of this kind
abbrev pub IsOfRowByte : ℕ → GroupRow → Type 0
IsOfRowByte n r = (row_byte r ≡ n) × FitsGroupRow r

-- the row that is lent to be written: none of the time before versions and sums
abbrev pub row_of : RowOf → GroupRow
row_of (lent.State time group) = State time group
row_of (lent.Volume vsn volume) = Volume vsn volume
row_of (lent.Bitfile b bitfile) = Bitfile b bitfile.now

-- the fields of a volume's row behind its serial number
abbrev pub VolumeFields : Type 0
VolumeFields = ℕ × (ℕ × (ℕ × (ℕ × (ℕ × Option Secs))))

abbrev pub volume_fields : VolumeRow → VolumeFields
volume_fields v = (v.slot, (v.version, (v.size, (v.epoch, (v.end, v.held)))))
