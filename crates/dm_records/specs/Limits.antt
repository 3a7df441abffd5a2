-- The payloads that a configuration allows, and how long a journal's payload may be.
use Rattle.std.specs.Prelude.{⊤, ℕ, ◌≤◌, length}
use Rattle.dm_base.specs.Limits.{file_limit, entries_limit}
use Rattle.dm_durable.specs.declared.daemon.DaemonStep.{DaemonStep}
use Rattle.dm_durable.specs.declared.daemon.DaemonStep.TheVariants.{Write, Remove, BeginPut, Stored, EndPut, Release, Taken, Dump, Undump, Restore, HardDelete, Dropped, Restart, Age}
use Rattle.dm_durable.specs.Dumps.{length_dumped}
use Rattle.dm_durable.specs.Inodes.{length_of}
use Rattle.dm_durable.specs.declared.daemon_journal.DaemonRow.{DaemonRow}
use Rattle.dm_durable.specs.declared.daemon_journal.DaemonRow.TheVariants.{State, OldState, File, Bitfile, Dump as DumpRow, OldDump, DumpFile}
use Rattle.dm_durable.specs.declared.daemon_journal.DaemonPayload.{DaemonPayload}
use Rattle.dm_durable.specs.declared.daemon_journal.DaemonPayload.TheVariants.{Head, Record, Upgrade, Row}

abbrev pub payload_limit : ℕ
payload_limit = 20971520

-- the bytes are those of a file, and there are as many bitfiles as there may be entries
abbrev pub IsStepWithinLimits : DaemonStep → Type 0
IsStepWithinLimits (Write path change bytes) = length bytes ≤ file_limit
IsStepWithinLimits (Remove path change) = ⊤
IsStepWithinLimits (BeginPut path b groups) = ⊤
IsStepWithinLimits (Stored b group) = ⊤
IsStepWithinLimits (EndPut n b dual) = ⊤
IsStepWithinLimits (Release path) = ⊤
IsStepWithinLimits (Taken n bytes) = length bytes ≤ file_limit
IsStepWithinLimits (Dump name) = ⊤
IsStepWithinLimits (Undump name) = ⊤
IsStepWithinLimits (Restore name path target change) = ⊤
IsStepWithinLimits (HardDelete bfids) = length bfids ≤ entries_limit
IsStepWithinLimits (Dropped b) = ⊤
IsStepWithinLimits Restart = ⊤
IsStepWithinLimits (Age age) = ⊤

-- the file isn't too long
abbrev pub IsRowWithinLimits : DaemonRow → Type 0
IsRowWithinLimits (State time change counter site first begun_age age) = ⊤
IsRowWithinLimits (OldState time change counter site first age) = ⊤
IsRowWithinLimits (File path n inode) = length_of inode.contents ≤ file_limit
IsRowWithinLimits (Bitfile b entry) = ⊤
IsRowWithinLimits (DumpRow name made least) = ⊤
IsRowWithinLimits (OldDump name made) = ⊤
IsRowWithinLimits (DumpFile name path file) = length_dumped file ≤ file_limit

abbrev pub IsWithinLimits : DaemonPayload → Type 0
IsWithinLimits (Head h) = ⊤
IsWithinLimits (Record r) = IsStepWithinLimits r.step
IsWithinLimits (Upgrade time) = ⊤
IsWithinLimits (Row r) = IsRowWithinLimits r
