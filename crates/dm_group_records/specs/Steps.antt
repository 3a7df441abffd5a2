-- What each record of a group is spelled as: its kind in one byte, the time after it in eight, and these fields.
use Rattle.std.specs.Prelude.{◌≡◌, ℕ, List, ◌++◌}
use Rattle.dm_base.specs.declared.identifier.Bfid.{Bfid}
use Rattle.dm_base.specs.declared.serial.Vsn.{Vsn}
use Rattle.dm_durable.specs.declared.group.GroupStep.{GroupStep}
use Rattle.dm_durable.specs.declared.group.GroupStep.TheVariants.{Volume, Commit, Delete, Move, Free, Reuse}
use Rattle.dm_durable.specs.Fields.{FitsGroupStep}
use Rattle.dm_fields.specs.Fields.{byte_field, longer_chunk_field, list_field}
use Rattle.dm_fields.specs.Numbers.{be64, be128}
use Rattle.dm_group_records.specs.declared.kinds.StepKind.{StepKind}
use Rattle.dm_group_records.specs.declared.kinds.StepKind.TheVariants as kind

abbrev pub bfid_field : Bfid → List ℕ
bfid_field b = be128 b.0

-- six letters
abbrev pub serial_field : Vsn → List ℕ
serial_field vsn = vsn.0

-- the kind of a record
abbrev pub kind_of : GroupStep → StepKind
kind_of (Volume vsn slot version size) = kind.Volume
kind_of (Commit b len chunks) = kind.Commit
kind_of (Delete b) = kind.Delete
kind_of (Move b from to) = kind.Move
kind_of (Free vsn) = kind.Free
kind_of (Reuse vsn epoch version) = kind.Reuse

-- the byte of a kind
abbrev pub step_byte : StepKind → ℕ
step_byte kind.Volume = 10
step_byte kind.Commit = 8
step_byte kind.Delete = 4
step_byte kind.Move = 9
step_byte kind.Free = 6
step_byte kind.Reuse = 11

-- the fields behind the time
abbrev pub step_fields : GroupStep → List ℕ
step_fields (Volume vsn slot version size) = serial_field vsn ++ (byte_field slot ++ (byte_field version ++ be64 size))
step_fields (Commit b len chunks) = bfid_field b ++ (be64 len ++ list_field longer_chunk_field chunks)
step_fields (Delete b) = bfid_field b
step_fields (Move b from to) = bfid_field b ++ (longer_chunk_field from ++ longer_chunk_field to)
step_fields (Free vsn) = serial_field vsn
step_fields (Reuse vsn epoch version) = serial_field vsn ++ (be64 epoch ++ byte_field version)

-- a step of this kind, whose fields fit
abbrev pub IsOfKind : StepKind → GroupStep → Type 0
IsOfKind k s = (kind_of s ≡ k) × FitsGroupStep s
