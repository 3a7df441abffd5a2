-- What each record of the daemon is spelled as: its kind in one byte, the time after it in eight, and these fields.
use Rattle.std.specs.Prelude.{◌≡◌, ℕ, List, [], ◌++◌}
use Rattle.dm_base.specs.declared.identifier.Bfid.{Bfid}
use Rattle.dm_base.specs.declared.identifier.GroupId.{GroupId}
use Rattle.dm_durable.specs.declared.daemon.DaemonStep.{DaemonStep}
use Rattle.dm_durable.specs.declared.daemon.DaemonStep.TheVariants.{Write, Remove, BeginPut, Stored, EndPut, Release, Taken, Dump, Undump, Restore, HardDelete, Dropped, Restart, Age}
use Rattle.dm_durable.specs.Fields.{FitsStep}
use Rattle.dm_fields.specs.Fields.{byte_field, flag_field, path_field, name_field, content_field, list_field, short_list_field}
use Rattle.dm_fields.specs.Numbers.{be64, be128}
use Rattle.dm_records.specs.declared.kinds.StepKind.{StepKind}
use Rattle.dm_records.specs.declared.kinds.StepKind.TheVariants as kind

abbrev pub bfid_field : Bfid → List ℕ
bfid_field b = be128 b.0

abbrev pub group_field : GroupId → List ℕ
group_field g = byte_field g.0

-- the kind of a record
abbrev pub kind_of : DaemonStep → StepKind
kind_of (Write path change bytes) = kind.Write
kind_of (Remove path change) = kind.Remove
kind_of (BeginPut path b groups) = kind.BeginPut
kind_of (Stored b group) = kind.Stored
kind_of (EndPut n b dual) = kind.EndPut
kind_of (Release path) = kind.Release
kind_of (Taken n bytes) = kind.Taken
kind_of (Dump name) = kind.Dump
kind_of (Undump name) = kind.Undump
kind_of (Restore name path target change) = kind.Restore
kind_of (HardDelete bfids) = kind.HardDelete
kind_of (Dropped b) = kind.Dropped
kind_of Restart = kind.Restart
kind_of (Age age) = kind.Age

-- the byte of a kind
abbrev pub step_byte : StepKind → ℕ
step_byte kind.Write = 2
step_byte kind.Remove = 3
step_byte kind.BeginPut = 4
step_byte kind.Stored = 5
step_byte kind.EndPut = 6
step_byte kind.Release = 7
step_byte kind.Taken = 8
step_byte kind.Dump = 9
step_byte kind.Undump = 10
step_byte kind.Restore = 11
step_byte kind.HardDelete = 12
step_byte kind.Dropped = 13
step_byte kind.Restart = 14
step_byte kind.Age = 15

-- the fields behind the time
abbrev pub step_fields : DaemonStep → List ℕ
step_fields (Write path change bytes) = path_field path ++ (be64 change ++ content_field bytes)
step_fields (Remove path change) = path_field path ++ be64 change
step_fields (BeginPut path b groups) = path_field path ++ (bfid_field b ++ short_list_field group_field groups)
step_fields (Stored b group) = bfid_field b ++ group_field group
step_fields (EndPut n b dual) = be64 n.0 ++ (bfid_field b ++ flag_field dual)
step_fields (Release path) = path_field path
step_fields (Taken n bytes) = be64 n.0 ++ content_field bytes
step_fields (Dump name) = name_field name
step_fields (Undump name) = name_field name
step_fields (Restore name path target change) = name_field name ++ (path_field path ++ (path_field target ++ be64 change))
step_fields (HardDelete bfids) = list_field bfid_field bfids
step_fields (Dropped b) = bfid_field b
step_fields Restart = []
step_fields (Age age) = be64 age

-- a step of this kind, whose fields fit
abbrev pub IsOfKind : StepKind → DaemonStep → Type 0
IsOfKind k s = (kind_of s ≡ k) × FitsStep s
