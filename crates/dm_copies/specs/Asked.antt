-- The copies of open puts, and which bitfiles have a content: what is kept of these whatever bytes reads give, so with no
-- premise on sums.
use Rattle.std.specs.Prelude.{◌≡◌, ◌<◌, ◌≤◌, ℕ, true, false, Option, None, Some}
use Rattle.std.specs.FinMap as map
use Rattle.dm_base.specs.Limits.{number_limit}
use Rattle.dm_base.specs.declared.identifier.Bfid.{Bfid}
use Rattle.dm_tables.specs.Rows.{EachRow}
use Rattle.dm_durable.specs.declared.daemon.DaemonRecord.{DaemonRecord}
use Rattle.dm_durable.specs.declared.daemon.DaemonStep.{DaemonStep}
use Rattle.dm_durable.specs.declared.daemon.DaemonStep.TheVariants.{Write, Remove, BeginPut, Stored, EndPut, Release, Taken, Dump, Undump, Restore, HardDelete, Dropped, Restart, Age}
use Rattle.dm_durable.specs.declared.daemon.DaemonTables.{DaemonTables}
use Rattle.dm_durable.specs.declared.daemon.Entry.{Entry}
use Rattle.dm_durable.specs.Daemon.{bfid_of}
use Rattle.dm_durable.specs.DaemonJournal.{IsGiven}
use Rattle.dm_durable.specs.Entries.{asks}
use Rattle.dm_durable.specs.Tables.{ByNumber}
use Rattle.dm_model.specs.declared.state.CopyState.{CopyState}
use Rattle.dm_model.specs.declared.state.Joint.{Joint}
use Rattle.dm_model.specs.declared.state.OpenRequest.{OpenRequest}
use Rattle.dm_invariant.specs.Among.{IsAmong}
use Rattle.dm_invariant.specs.Doubts.{NoRequestOf}
use Rattle.dm_invariant.specs.Reservations.{PutOf}

-- a copy is of a bitfile that was given, whose put is open, and whose entry asks the group and isn't being dropped
pub record CopyIsAsked (t : DaemonTables) (requests : ByNumber OpenRequest) (g b : ℕ) (c : CopyState) : Type 0 where
  pub given : IsGiven t.site t.counter b
  pub entry : Entry
  pub is : map.get t.entries b ≡ Some entry
  pub asked : asks entry g ≡ true
  pub lasting : entry.dropping ≡ false
  pub put : PutOf requests c.request b

-- a step begins the put of the next bitfile, takes none on which a request is open, and drops an entry only where it is being
-- dropped. A restart is never in doubt
abbrev pub StepSpares : DaemonTables → ByNumber OpenRequest → DaemonStep → Type 0
StepSpares t requests (Write path change bytes) = Unit {0}
StepSpares t requests (Remove path change) = Unit {0}
StepSpares t requests (BeginPut path b groups) = (b.0 ≡ bfid_of t.site t.counter) × (t.counter ≤ number_limit)
StepSpares t requests (Stored b group) = Unit {0}
StepSpares t requests (EndPut n b dual) = Unit {0}
StepSpares t requests (Release path) = Unit {0}
StepSpares t requests (Taken n bytes) = Unit {0}
StepSpares t requests (Dump name) = Unit {0}
StepSpares t requests (Undump name) = Unit {0}
StepSpares t requests (Restore name path target change) = Unit {0}
StepSpares t requests (HardDelete bfids) = (b : Bfid) → IsAmong b bfids → NoRequestOf requests b.0
StepSpares t requests (Dropped b) = (e : Entry) → map.get t.entries b.0 ≡ Some e → e.dropping ≡ true
StepSpares t requests Restart = ⊥
StepSpares t requests (Age age) = Unit {0}

abbrev pub DoubtSpares : DaemonTables → ByNumber OpenRequest → Option DaemonRecord → Type 0
DoubtSpares t requests None = Unit {0}
DoubtSpares t requests (Some r) = StepSpares t requests r.step

-- each copy is one that the entry of an open put asks for; contents are of bitfiles that were given; numbers of requests are
-- below the next; and a step in doubt changes none of this
pub record CopiesAreAsked (j : Joint) : Type 0 where
  pub numbers : EachRow j.daemon.requests (λ k r. k < j.daemon.next_request)
  pub contents : EachRow j.history.contents (λ b bytes. IsGiven j.daemon.tables.site j.daemon.tables.counter b)
  pub copies : EachRow j.sides (λ g s. EachRow s.copies (CopyIsAsked j.daemon.tables j.daemon.requests g))
  pub doubt : DoubtSpares j.daemon.tables j.daemon.requests j.daemon.doubt
