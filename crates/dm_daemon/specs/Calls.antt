-- What a call of the daemon needs and does, with its device.
use Rattle.std.specs.Prelude.{◌≡◌, ⊤, ℕ, false, IsTrue, IsSome, Some, Result, Ok, Err}
use Rattle.dm_base.specs.declared.error.DaemonError.{DaemonError}
use Rattle.dm_base.specs.declared.error.DaemonError.TheVariants as error
use Rattle.dm_daemon.specs.declared.daemon.Daemon.{Daemon as TheDaemon}
use Rattle.dm_daemon.specs.State.{IsSure, KeepsDisk, Stands, doubt_of, state_of}
use Rattle.dm_daemon_acts.specs.Acts.{Did, Does, IsAnswer, IsFault, IsNoMemory, Ready, Report, Usable}
use Rattle.dm_daemon_tables.specs.Tables.{state_of as tables_of}
use Rattle.dm_durable.specs.DaemonConditions.{MayFollow}
use Rattle.dm_durable.specs.Fields.{FitsPayload}
use Rattle.dm_durable.specs.declared.daemon.DaemonRecord.{DaemonRecord}
use Rattle.dm_durable.specs.declared.daemon_journal.DaemonPayload.TheVariants.{Record}
use Rattle.dm_host.specs.Count.{HasCause, Rose}
use Rattle.dm_host.specs.Disk.{Disk}
use Rattle.dm_host.specs.declared.Failed.{Failed}
use Rattle.dm_model.specs.declared.call.DaemonCall.{DaemonCall}
use Rattle.dm_model.specs.declared.state.Daemon.{Daemon}
use Rattle.dm_model.specs.DaemonCalls.{daemon_plan}
use Rattle.dm_model.specs.DaemonShare.{daemon_after_heal, daemon_after_record, daemon_with_doubt}
use Rattle.dm_model.specs.Guards.{AllHold}
use Rattle.dm_records.specs.Limits.{IsWithinLimits}

-- ---- faults

-- a fault is reported exactly where the device's count rose, by one
abbrev pub CountsReport : ℕ → ℕ → Report → Type 0
CountsReport old new (IsAnswer a) = new ≡ old
CountsReport old new IsFault = Rose old new
CountsReport old new IsNoMemory = new ≡ old

-- ---- what is journalled

-- the step is done; or it is in doubt; or memory was refused and nothing was changed
abbrev pub ComesToError : Daemon → DaemonRecord → Daemon → DaemonError → Type 0
ComesToError old r new error.DaemonFault = new ≡ daemon_with_doubt (Some r) old
ComesToError old r new error.NoMemory = new ≡ old
ComesToError old r new error.NoFile = ⊥
ComesToError old r new (error.WrongState found) = ⊥
ComesToError old r new (error.Changed was found) = ⊥
ComesToError old r new (error.Full have need cap) = ⊥
ComesToError old r new error.NoDump = ⊥
ComesToError old r new (error.Expired now made age) = ⊥
ComesToError old r new error.Exists = ⊥
ComesToError old r new (error.TooMany limit) = ⊥

abbrev pub ComesTo : Daemon → DaemonRecord → Daemon → Result ⊤ DaemonError → Type 0
ComesTo old r new (Ok x) = new ≡ daemon_after_record r old
ComesTo old r new (Err e) = ComesToError old r new e

abbrev pub CountsError : ℕ → ℕ → DaemonError → Type 0
CountsError old new error.DaemonFault = Rose old new
CountsError old new error.NoMemory = new ≡ old
CountsError old new error.NoFile = ⊥
CountsError old new (error.WrongState found) = ⊥
CountsError old new (error.Changed was found) = ⊥
CountsError old new (error.Full have need cap) = ⊥
CountsError old new error.NoDump = ⊥
CountsError old new (error.Expired now made age) = ⊥
CountsError old new error.Exists = ⊥
CountsError old new (error.TooMany limit) = ⊥

abbrev pub Counts : ℕ → ℕ → Result ⊤ DaemonError → Type 0
Counts old new (Ok x) = new ≡ old
Counts old new (Err e) = CountsError old new e

-- what it needs for a record to be journalled: no step is in doubt, the record is spelled within the limits, and may follow
pub record MayJournal (d : Disk) (m : TheDaemon) (r : DaemonRecord) : Type 0 where
  pub sure : IsSure m
  pub stands : Stands d m
  pub fits : FitsPayload (Record r)
  pub short : IsWithinLimits (Record r)
  pub may : MayFollow (tables_of m.journalled.tables) r

-- a record was journalled, from one disk, count of faults and daemon to another
pub record Journals (a b : Disk) (m n : ℕ) (old new : TheDaemon) (r : DaemonRecord) (result : Result ⊤ DaemonError) : Type 0 where
  pub comes : ComesTo (state_of old) r (state_of new) result
  pub landed : new.landed ≡ old.landed
  pub disk : KeepsDisk a b old new
  pub counts : Counts m n result

-- ---- a call where no step is in doubt

pub record MayAct (d : Disk) (m : TheDaemon) (c : DaemonCall) : Type 0 where
  pub sure : IsSure m
  pub stands : Stands d m
  pub own : AllHold (daemon_plan (state_of m) c).own
  pub usable : Usable (state_of m) c

pub record Acts (a b : Disk) (m n : ℕ) (old new : TheDaemon) (c : DaemonCall) (r : Report) : Type 0 where
  pub does : Does (state_of old) (state_of new) c r
  pub landed : new.landed ≡ old.landed
  pub disk : KeepsDisk a b old new
  pub counts : CountsReport m n r

-- ---- the step in doubt

abbrev pub IsSettled : TheDaemon → TheDaemon → Result ⊤ Failed → Type 0
IsSettled old new (Ok x) = (state_of new ≡ daemon_after_heal new.landed (state_of old)) × IsSure new
IsSettled old new (Err e) = (state_of new ≡ state_of old) × (new.landed ≡ false)

pub record Settles (a b : Disk) (m n : ℕ) (old new : TheDaemon) (result : Result ⊤ Failed) : Type 0 where
  pub settled : IsSettled old new result
  pub landed : IsTrue new.landed → IsSome (doubt_of old)
  pub disk : KeepsDisk a b old new
  pub counts : HasCause m n result

-- ---- a whole call

-- the condition of a call
pub record MayServe (d : Disk) (m : TheDaemon) (c : DaemonCall) : Type 0 where
  pub stands : Stands d m
  pub ready : Ready (state_of m) c

-- What a call does: what the machine's plan says, the step in doubt settled first as `landed` tells, which is no unless a
-- step was in doubt; the disk is kept, at each moment; a fault is reported exactly where the device's count rose.
pub record Serves (a b : Disk) (m n : ℕ) (old new : TheDaemon) (c : DaemonCall) (r : Report) : Type 0 where
  pub did : Did (state_of old) (state_of new) new.landed c r
  pub landed : IsTrue new.landed → IsSome (doubt_of old)
  pub disk : KeepsDisk a b old new
  pub counts : CountsReport m n r
