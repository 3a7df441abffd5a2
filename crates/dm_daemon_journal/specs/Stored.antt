-- What the payloads of a store tell of the daemon's tables, and what is kept of them across the calls.
use Rattle.std.specs.Prelude.{◌≡◌, ◌⊎◌, ℕ, Option, None, Some, IfSome, List, map}
use Rattle.std.specs.Option.{option_map}
use Rattle.std.specs.List.{AllByRecursion}
use Rattle.dm_ckpt.specs.State.{At, Keeps, Doubts, Turns, Stands, StandsFor}
use Rattle.dm_daemon_tables.specs.Prepared.{IsReady, record_of}
use Rattle.dm_daemon_tables.specs.Tables.{state_of}
use Rattle.dm_durable.specs.DaemonConditions.{MayFollow}
use Rattle.dm_durable.specs.DaemonJournal.{Tells}
use Rattle.dm_durable.specs.Fields.{FitsPayload}
use Rattle.dm_durable.specs.declared.daemon.DaemonRecord.{DaemonRecord}
use Rattle.dm_durable.specs.declared.daemon.DaemonTables.{DaemonTables}
use Rattle.dm_durable.specs.declared.daemon_journal.DaemonPayload.{DaemonPayload}
use Rattle.dm_durable.specs.declared.daemon_journal.DaemonPayload.TheVariants.{Record}
use Rattle.dm_durable.specs.declared.daemon_journal.JournalVersion.TheVariants.{Second}
use Rattle.dm_host.specs.Disk.{Disk, Image}
use Rattle.dm_records.specs.Payloads.{spelling}
use Rattle.dm_daemon_journal.specs.declared.kept.Journalled.{Journalled}

-- payloads, spelled so, tell of these tables, in a journal of version 2
pub record TellsOf (ps : List (List ℕ)) (t : DaemonTables) : Type 0 where
  pub payloads : List DaemonPayload
  pub spelled : ps ≡ map spelling payloads
  pub fit : AllByRecursion FitsPayload payloads
  pub tells : Tells payloads (record { version = Second; tables = t })

-- the store keeps payloads that tell of the tables
pub record Holds (d : Disk) (s : At) (t : DaemonTables) : Type 0 where
  pub payloads : List (List ℕ)
  pub keeps : Keeps d s payloads
  pub tells : TellsOf payloads t

-- it keeps one list of them or another, by a checkpoint that failed
pub record HoldsTurning (d : Disk) (s : At) (t : DaemonTables) : Type 0 where
  pub old : List (List ℕ)
  pub new : List (List ℕ)
  pub turns : Turns d s old new
  pub old_tells : TellsOf old t
  pub new_tells : TellsOf new t

-- it keeps payloads that tell of the tables, and may keep the record's, which may follow
pub record HoldsPerhaps (d : Disk) (s : At) (t : DaemonTables) (r : DaemonRecord) : Type 0 where
  pub payloads : List (List ℕ)
  pub doubts : Doubts d s payloads (spelling (Record r))
  pub tells : TellsOf payloads t
  pub fits : FitsPayload (Record r)
  pub may : MayFollow t r

abbrev pub HoldsWith : Disk → At → DaemonTables → Option DaemonRecord → Type 0
HoldsWith d s t None = Holds d s t ⊎ HoldsTurning d s t
HoldsWith d s t (Some r) = HoldsPerhaps d s t r

-- the disk holds what the tables are, with or without the step in doubt
abbrev pub OnDisk : Disk → Journalled → Type 0
OnDisk d m = HoldsWith d m.store (state_of m.tables) (option_map record_of m.pending)

-- what the calls need whatever the disk tells: a store that stands, and a step in doubt that is ready for the tables
pub record Sits (d : Disk) (m : Journalled) : Type 0 where
  pub store : Stands d m.store
  pub ready : IfSome m.pending (λ p. IsReady m.tables p)

-- an image stands for the tables: it stands for payloads that tell of them
pub record StandsForTables (component : ℕ) (t : DaemonTables) (x : Image) : Type 0 where
  pub payloads : List (List ℕ)
  pub stands : StandsFor component payloads x
  pub tells : TellsOf payloads t

-- what a crash leaves of a step: the tables before it or after it
abbrev pub EitherTables : ℕ → DaemonTables → DaemonTables → Image → Type 0
EitherTables component t u x = StandsForTables component t x ⊎ StandsForTables component u x
