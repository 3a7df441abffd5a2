-- What a call of the daemon does: what the model's plan of it says, and nothing else.
--
-- A call first settles the step in doubt (`daemon_after_heal`). Where that fails, or the checkpoint that is due fails behind
-- it, only what the call spends in every answer goes. Else the call does what its plan, with the tests of its refusals made,
-- does to the daemon alone.
use Rattle.std.specs.Prelude.{◌≡◌, ◌⊎◌, ◌≤◌, ℕ, Bool, true, false, Option, None, Some, Result, Ok, Err, List, length}
use Rattle.std.specs.FinMap as map
use Rattle.dm_base.specs.declared.error.DaemonError.{DaemonError}
use Rattle.dm_base.specs.declared.error.DaemonError.TheVariants as error
use Rattle.dm_base.specs.Limits.{entries_limit, file_limit}
use Rattle.dm_durable.specs.declared.daemon.Contents.{Contents}
use Rattle.dm_durable.specs.declared.daemon.Contents.TheVariants as contents
use Rattle.dm_durable.specs.declared.daemon.DaemonTables.{DaemonTables}
use Rattle.dm_durable.specs.declared.daemon.Dump.{Dump}
use Rattle.dm_durable.specs.declared.daemon.DumpInode.{DumpInode}
use Rattle.dm_durable.specs.declared.daemon.Entry.{Entry}
use Rattle.dm_durable.specs.declared.daemon.Inode.{Inode}
use Rattle.dm_durable.specs.Daemon.{size_of}
use Rattle.dm_durable.specs.DaemonConditions.{IsThere}
use Rattle.dm_durable.specs.Dumps.{is_young}
use Rattle.dm_durable.specs.Limits.{AreGroups}
use Rattle.dm_model.specs.declared.answer.Answer.{Answer}
use Rattle.dm_model.specs.declared.answer.Answer.TheVariants as answer
use Rattle.dm_model.specs.declared.call.DaemonCall.{DaemonCall}
use Rattle.dm_model.specs.declared.call.DaemonCall.TheVariants as call
use Rattle.dm_model.specs.declared.state.Daemon.{Daemon}
use Rattle.dm_model.specs.declared.state.OpenRequest.{OpenRequest}
use Rattle.dm_model.specs.DaemonCalls.{contents_of, daemon_plan, time_at}
use Rattle.dm_model.specs.DaemonShare.{daemon_after_call, daemon_after_ending, daemon_after_fault, daemon_after_heal}
use Rattle.dm_model.specs.Files.{File, file_at, groups_of}
use Rattle.dm_model.specs.Guards.{AllHold}
use Rattle.dm_model.specs.Plan.{Plan, prepared_plan}
use Rattle.dm_durable.specs.Inodes.{bytes_online}

-- ---- what comes of a call

-- an answer, a refusal among them; a fault of the device; or want of memory
pub data Report : Type 0 where
  IsAnswer : (answer : Answer) → Report
  IsFault : Report
  IsNoMemory : Report

abbrev pub report_of_error : DaemonError → Report
report_of_error error.NoFile = IsAnswer (answer.DaemonRefused error.NoFile)
report_of_error (error.WrongState found) = IsAnswer (answer.DaemonRefused (error.WrongState found))
report_of_error (error.Changed was found) = IsAnswer (answer.DaemonRefused (error.Changed was found))
report_of_error (error.Full have need cap) = IsAnswer (answer.DaemonRefused (error.Full have need cap))
report_of_error error.NoDump = IsAnswer (answer.DaemonRefused error.NoDump)
report_of_error (error.Expired now made age) = IsAnswer (answer.DaemonRefused (error.Expired now made age))
report_of_error error.Exists = IsAnswer (answer.DaemonRefused error.Exists)
report_of_error (error.TooMany limit) = IsAnswer (answer.DaemonRefused (error.TooMany limit))
report_of_error error.DaemonFault = IsFault
report_of_error error.NoMemory = IsNoMemory

-- what a call's result reports, with the answer that its value is
abbrev pub report_of : {X : Type 0} → (X → Answer) → Result X DaemonError → Report
report_of f (Ok x) = IsAnswer (f x)
report_of f (Err e) = report_of_error e

-- ---- what a call does

-- of a plan, where no step is in doubt
abbrev pub DoesPlan : Plan → Daemon → Daemon → Report → Type 0
DoesPlan p old new (IsAnswer a) = (a ≡ (prepared_plan p).answer) × (new ≡ daemon_after_call (prepared_plan p) old)
DoesPlan p old new IsFault = new ≡ daemon_after_fault (prepared_plan p) true old
DoesPlan p old new IsNoMemory = new ≡ daemon_after_ending p.ends old

abbrev pub Does : Daemon → Daemon → DaemonCall → Report → Type 0
Does old new c r = DoesPlan (daemon_plan old c) old new r

-- it failed before it came to its step
abbrev pub FailedEarly : Daemon → Daemon → DaemonCall → Report → Type 0
FailedEarly old new c r = (r ≡ IsFault) × (new ≡ daemon_after_fault (prepared_plan (daemon_plan old c)) false old)

-- the whole call: the step in doubt is settled, as `landed` says, and the call does what its plan says; or that failed; or the
-- checkpoint behind it did
abbrev pub Did : Daemon → Daemon → Bool → DaemonCall → Report → Type 0
Did old new landed c r =
    Does (daemon_after_heal landed old) new c r
    ⊎ (((landed ≡ false) × FailedEarly old new c r) ⊎ FailedEarly (daemon_after_heal landed old) new c r)

-- ---- what a call needs

-- the put of a file that wasn't changed since it began: its inode is being made into the bitfile, which has an entry
pub record IsLivePut (t : DaemonTables) (r : OpenRequest) : Type 0 where
  pub inode : Inode
  pub is : map.get t.inodes r.ino.0 ≡ Some inode
  pub bytes : List ℕ
  pub form : inode.contents ≡ contents.Making bytes r.bfid
  pub entry : Entry
  pub known : map.get t.entries r.bfid.0 ≡ Some entry

-- the entry of the request isn't being dropped
abbrev pub UsableCopy : DaemonTables → Option OpenRequest → Type 0
UsableCopy t None = Unit {0}
UsableCopy t (Some r) = (e : Entry) → map.get t.entries r.bfid.0 ≡ Some e → e.dropping ≡ false

abbrev pub UsablePut : DaemonTables → Option OpenRequest → Type 0
UsablePut t None = Unit {0}
UsablePut t (Some r) = r.found ≡ None → IsLivePut t r

-- bytes that come to an inode are as many as it has, which are no more than a file may have
abbrev pub FitsRecalled : List ℕ → Contents → Type 0
FitsRecalled bytes (contents.Regular old) = Unit {0}
FitsRecalled bytes (contents.Making old b) = Unit {0}
FitsRecalled bytes (contents.Dual old b) = Unit {0}
FitsRecalled bytes (contents.Offline len b) = (length bytes ≡ len) × (len ≤ file_limit)

abbrev pub UsableRecall : DaemonTables → List ℕ → Option OpenRequest → Type 0
UsableRecall t bytes None = Unit {0}
UsableRecall t bytes (Some r) = r.found ≡ None → FitsRecalled bytes (contents_of (map.get t.inodes r.ino.0))

-- what a young dump names is there
abbrev pub UsableDump : DaemonTables → ℕ → List ℕ → Option Dump → Type 0
UsableDump t now path None = Unit {0}
UsableDump t now path (Some d) = is_young now d ≡ true → (f : DumpInode) → map.get d.files path ≡ Some f → IsThere t.entries f

-- a file has no more bytes on the disk than a file may have
abbrev pub UsableFile : Option File → Type 0
UsableFile None = Unit {0}
UsableFile (Some f) = length (bytes_online f.inode.contents) ≤ file_limit

-- What a call needs beside the guards of its plan: each is true in every sound state, and no other is needed.
abbrev pub Usable : Daemon → DaemonCall → Type 0
Usable d (call.BeginPut path asked now k) = AreGroups (groups_of asked)
Usable d (call.CopyStored k group now) = UsableCopy d.tables (map.get d.requests k)
Usable d (call.EndPut k now) = UsablePut d.tables (map.get d.requests k)
Usable d (call.Release path now) = Unit {0}
Usable d (call.BeginRecall path k) = Unit {0}
Usable d (call.EndRecall k bytes now) = UsableRecall d.tables bytes (map.get d.requests k)
Usable d (call.DropRecall k) = Unit {0}
Usable d (call.Write path bytes now) = size_of d.tables ≤ d.cap
Usable d (call.Patch path offset bytes now) = (size_of d.tables ≤ d.cap) × UsableFile (file_at d path)
Usable d (call.Remove path now) = Unit {0}
Usable d (call.MakeDump name now) = size_of d.tables ≤ d.cap
Usable d (call.Undump name now) = Unit {0}
Usable d (call.Restore name path target now) =
    (size_of d.tables ≤ d.cap) × UsableDump d.tables (time_at d now.0) path (map.get d.tables.dumps name)
Usable d (call.SetAge age now) = Unit {0}
Usable d (call.HardDelete now) = map.len d.tables.entries ≤ entries_limit
Usable d (call.NextDropping after) = Unit {0}
Usable d (call.Dropped b now) = Unit {0}
Usable d (call.Attributes path) = Unit {0}
Usable d call.List = Unit {0}

-- The condition of a call, whatever became of the step in doubt: the guards of its plan that are of the daemon, and the above.
pub record Ready (d : Daemon) (c : DaemonCall) : Type 0 where
  pub may : (landed : Bool) → AllHold (daemon_plan (daemon_after_heal landed d) c).own
  pub usable : (landed : Bool) → Usable (daemon_after_heal landed d) c
