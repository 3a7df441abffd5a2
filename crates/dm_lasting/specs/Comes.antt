-- How a copy comes to be stored.
use Rattle.std.specs.Prelude.{◌≡◌, ℕ, false, Option, None, Some}
use Rattle.std.specs.FinMap as map
use Rattle.dm_tables.specs.Rows.{EachRow}
use Rattle.dm_durable.specs.declared.daemon.DaemonRecord.{DaemonRecord}
use Rattle.dm_durable.specs.declared.daemon.DaemonStep.{DaemonStep}
use Rattle.dm_durable.specs.declared.daemon.DaemonStep.TheVariants as daemon_step
use Rattle.dm_durable.specs.declared.daemon.Entry.{Entry}
use Rattle.dm_durable.specs.Entries.{has_stored}
use Rattle.dm_durable.specs.Tables.{ByNumber}
use Rattle.dm_model.specs.declared.call.Call.{Call}
use Rattle.dm_model.specs.declared.call.Call.TheVariants as call
use Rattle.dm_model.specs.declared.call.DaemonCall.{DaemonCall}
use Rattle.dm_model.specs.declared.call.DaemonCall.TheVariants as daemon_call
use Rattle.dm_model.specs.declared.call.Event.{Event}
use Rattle.dm_model.specs.declared.call.Event.TheVariants as event
use Rattle.dm_model.specs.declared.state.Daemon.{Daemon}
use Rattle.dm_model.specs.declared.state.OpenRequest.{OpenRequest}

-- the step says that this group stored its copy of the bitfile
abbrev pub IsStoredOf : ℕ → ℕ → DaemonStep → Type 0
IsStoredOf b g (daemon_step.Write path change bytes) = ⊥
IsStoredOf b g (daemon_step.Remove path change) = ⊥
IsStoredOf b g (daemon_step.BeginPut path c groups) = ⊥
IsStoredOf b g (daemon_step.Stored c h) = (c.0 ≡ b) × (h.0 ≡ g)
IsStoredOf b g (daemon_step.EndPut n c dual) = ⊥
IsStoredOf b g (daemon_step.Release path) = ⊥
IsStoredOf b g (daemon_step.Taken n bytes) = ⊥
IsStoredOf b g (daemon_step.Dump name) = ⊥
IsStoredOf b g (daemon_step.Undump name) = ⊥
IsStoredOf b g (daemon_step.Restore name path target change) = ⊥
IsStoredOf b g (daemon_step.HardDelete bfids) = ⊥
IsStoredOf b g (daemon_step.Dropped c) = ⊥
IsStoredOf b g daemon_step.Restart = ⊥
IsStoredOf b g (daemon_step.Age age) = ⊥

-- no entry of the bitfile says that the group has stored its copy
abbrev pub NotStored : ByNumber Entry → ℕ → ℕ → Type 0
NotStored entries b g = EachRow entries (λ q e. q ≡ b → has_stored e g ≡ false)

-- a step in doubt says so
abbrev pub DoubtStores : ℕ → ℕ → Option DaemonRecord → Type 0
DoubtStores b g None = ⊥
DoubtStores b g (Some r) = IsStoredOf b g r.step

-- the copy isn't stored, and no step in doubt says that it is
pub record Unstored (d : Daemon) (b g : ℕ) : Type 0 where
  pub rows : NotStored d.tables.entries b g
  pub doubt : DoubtStores b g d.doubt → ⊥

-- a call of the daemon says of an open request of the bitfile that the group's copy is stored
abbrev pub IsCopyStored : Daemon → ℕ → ℕ → DaemonCall → Type 0
IsCopyStored d b g (daemon_call.BeginPut path asked now k) = ⊥
IsCopyStored d b g (daemon_call.CopyStored k h now) = (r : OpenRequest) × (map.get d.requests k ≡ Some r) × (r.bfid.0 ≡ b) × (h.0 ≡ g)
IsCopyStored d b g (daemon_call.EndPut k now) = ⊥
IsCopyStored d b g (daemon_call.Release path now) = ⊥
IsCopyStored d b g (daemon_call.BeginRecall path k) = ⊥
IsCopyStored d b g (daemon_call.EndRecall k bytes now) = ⊥
IsCopyStored d b g (daemon_call.DropRecall k) = ⊥
IsCopyStored d b g (daemon_call.Write path bytes now) = ⊥
IsCopyStored d b g (daemon_call.Patch path offset bytes now) = ⊥
IsCopyStored d b g (daemon_call.Remove path now) = ⊥
IsCopyStored d b g (daemon_call.MakeDump name now) = ⊥
IsCopyStored d b g (daemon_call.Undump name now) = ⊥
IsCopyStored d b g (daemon_call.Restore name path target now) = ⊥
IsCopyStored d b g (daemon_call.SetAge age now) = ⊥
IsCopyStored d b g (daemon_call.HardDelete now) = ⊥
IsCopyStored d b g (daemon_call.NextDropping after) = ⊥
IsCopyStored d b g (daemon_call.Dropped c now) = ⊥
IsCopyStored d b g (daemon_call.Attributes path) = ⊥
IsCopyStored d b g daemon_call.List = ⊥

-- an event is such a call, answered or failed
abbrev pub SaysStored : Daemon → ℕ → ℕ → Call → Type 0
SaysStored d b g (call.Daemon c) = IsCopyStored d b g c
SaysStored d b g (call.Group h c) = ⊥
SaysStored d b g (call.Volume h vsn c) = ⊥

abbrev pub StoredBy : Daemon → ℕ → ℕ → Event → Type 0
StoredBy d b g (event.Call c) = SaysStored d b g c
StoredBy d b g (event.Fault c healed checkpointed) = SaysStored d b g c
StoredBy d b g (event.Landed c) = ⊥
StoredBy d b g (event.Look c) = ⊥
StoredBy d b g event.Stop = ⊥
