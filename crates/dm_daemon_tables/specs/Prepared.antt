-- The record of a step that is prepared, and what the tables keep for it.
use Rattle.std.specs.Prelude.{◌≡◌, ℕ, ◌<◌, Option, None, Some}
use Rattle.std.specs.Option.{option_map}
use Rattle.std.specs.FinMap as map
use Rattle.dm_durable.specs.declared.daemon.DaemonRecord.{DaemonRecord}
use Rattle.dm_durable.specs.declared.daemon.DaemonStep.{DaemonStep}
use Rattle.dm_durable.specs.declared.daemon.DaemonStep.TheVariants as step
use Rattle.dm_durable.specs.declared.daemon.DumpInode.{DumpInode}
use Rattle.dm_durable.specs.declared.daemon.Inode.{Inode}
use Rattle.dm_durable.specs.Entries.{new_entry}
use Rattle.dm_durable.specs.Dumps.{as_restored, file_in, new_dump}
use Rattle.dm_daemon_tables.specs.declared.prepared.Prepared.{Prepared}
use Rattle.dm_daemon_tables.specs.declared.prepared.Step.{Step}
use Rattle.dm_daemon_tables.specs.declared.prepared.Step.TheVariants.{Write, Remove, BeginPut, Stored, EndPut, Release, Taken, Dump, Undump, Restore, HardDelete, Dropped, Restart, Age}
use Rattle.dm_daemon_tables.specs.declared.tables.Tables.{Tables}

abbrev pub step_of : Step → DaemonStep
step_of (Write name change bytes inode) = step.Write name.value.0 change bytes
step_of (Remove path change) = step.Remove path change
step_of (BeginPut path b groups entry count) = step.BeginPut path b groups
step_of (Stored b group) = step.Stored b group
step_of (EndPut n b dual) = step.EndPut n b dual
step_of (Release path) = step.Release path
step_of (Taken n bytes) = step.Taken n bytes
step_of (Dump row) = step.Dump row.value.0
step_of (Undump name) = step.Undump name
step_of (Restore name path target change inode count) = step.Restore name path target.value.0 change
step_of (HardDelete bfids) = step.HardDelete bfids
step_of (Dropped b) = step.Dropped b
step_of Restart = step.Restart
step_of (Age age) = step.Age age

-- the record of a step that is prepared
abbrev pub record_of : Prepared → DaemonRecord
record_of p = record { time = p.time; step = step_of p.step }

-- the inode that a file of a dump becomes
abbrev pub restored_inode : ℕ → Option DumpInode → Option Inode
restored_inode change None = None
restored_inode change (Some file) = Some (record { change = change; contents = as_restored file })

-- the tables keep places for the step, and what was made for it is right for them
abbrev pub IsReadyFor : Tables → ℕ → Step → Type 0
IsReadyFor m time (Write name change bytes inode) = (0 < m.names.spare) × (0 < m.inodes.rows.spare)
IsReadyFor m time (Remove path change) = Unit {0}
IsReadyFor m time (BeginPut path b groups entry count) =
    (0 < m.entries.spare) × (0 < m.inodes.counts.spare) × (entry.value.1 ≡ new_entry 0 groups)
IsReadyFor m time (Stored b group) = Unit {0}
IsReadyFor m time (EndPut n b dual) = Unit {0}
IsReadyFor m time (Release path) = Unit {0}
IsReadyFor m time (Taken n bytes) = Unit {0}
IsReadyFor m time (Dump row) =
    (0 < m.dumps.rows.spare) × (row.value.1 ≡ new_dump time m.age m.names.rows m.inodes.rows.rows)
IsReadyFor m time (Undump name) = Unit {0}
IsReadyFor m time (Restore name path target change inode count) =
    (0 < m.names.spare) × (0 < m.inodes.rows.spare) × (0 < m.inodes.counts.spare)
    × (restored_inode change (file_in (map.get m.dumps.rows.rows name) path) ≡ option_map (λ row. row.value.1) inode)
IsReadyFor m time (HardDelete bfids) = Unit {0}
IsReadyFor m time (Dropped b) = Unit {0}
IsReadyFor m time Restart = Unit {0}
IsReadyFor m time (Age age) = Unit {0}

abbrev pub IsReady : Tables → Prepared → Type 0
IsReady m p = IsReadyFor m p.time.0 p.step
