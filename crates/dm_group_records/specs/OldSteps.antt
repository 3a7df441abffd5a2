-- What the records were spelled as before there were versions and sums. Volumes have version 1, and chunks no sum.
use Rattle.std.specs.Prelude.{◌≡◌, Option, None, Some, ℕ, List, [], ◌++◌}
use Rattle.dm_durable.specs.declared.group.GroupStep.{GroupStep}
use Rattle.dm_durable.specs.declared.group.GroupStep.TheVariants.{Volume, Commit, Delete, Move, Free, Reuse}
use Rattle.dm_durable.specs.Fields.{FitsGroupStep, IsOldStep}
use Rattle.dm_fields.specs.Fields.{byte_field, chunk_field, list_field}
use Rattle.dm_fields.specs.Numbers.{be64}
use Rattle.dm_group_records.specs.Steps.{bfid_field, serial_field}
use Rattle.dm_group_records.specs.declared.kinds.OldKind.{OldKind}
use Rattle.dm_group_records.specs.declared.kinds.OldKind.TheVariants as kind

-- the kind of a record; a delete and a free have no spelling of their own here
abbrev pub old_kind_of : GroupStep → Option OldKind
old_kind_of (Volume vsn slot version size) = Some kind.Volume
old_kind_of (Commit b len chunks) = Some kind.Commit
old_kind_of (Delete b) = None
old_kind_of (Move b from to) = Some kind.Move
old_kind_of (Free vsn) = None
old_kind_of (Reuse vsn epoch version) = Some kind.Reuse

-- the byte of a kind
abbrev pub old_byte : OldKind → ℕ
old_byte kind.Volume = 2
old_byte kind.Commit = 3
old_byte kind.Move = 5
old_byte kind.Reuse = 7

-- the fields behind the time
abbrev pub old_fields : GroupStep → List ℕ
old_fields (Volume vsn slot version size) = serial_field vsn ++ (byte_field slot ++ be64 size)
old_fields (Commit b len chunks) = bfid_field b ++ (be64 len ++ list_field chunk_field chunks)
old_fields (Delete b) = []
old_fields (Move b from to) = bfid_field b ++ (chunk_field from ++ chunk_field to)
old_fields (Free vsn) = []
old_fields (Reuse vsn epoch version) = serial_field vsn ++ be64 epoch

-- a step of this kind, whose fields fit, and of which the old spelling leaves nothing out
abbrev pub IsOfOldKind : OldKind → GroupStep → Type 0
IsOfOldKind k s = (old_kind_of s ≡ Some k) × FitsGroupStep s × IsOldStep s
