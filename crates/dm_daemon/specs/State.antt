-- The program's daemon seen as the model's, and what its calls need and keep of the disk.
use Rattle.std.specs.Prelude.{◌≡◌, ◌⊎◌, ◌≤◌, ℕ, Bool, Option, None, length}
use Rattle.std.specs.Option.{option_map}
use Rattle.dm_ckpt.specs.declared.doubt.Doubt.TheVariants.{Sure}
use Rattle.dm_ckpt.specs.Files.{Mine}
use Rattle.dm_daemon.specs.declared.daemon.Daemon.{Daemon as TheDaemon}
use Rattle.dm_daemon.specs.Changed.{requests_after_doubt}
use Rattle.dm_daemon_journal.specs.Doubts.{after_settling}
use Rattle.dm_daemon_journal.specs.Stored.{OnDisk, Sits, StandsForTables}
use Rattle.dm_daemon_tables.specs.Prepared.{record_of}
use Rattle.dm_daemon_tables.specs.Tables.{state_of as tables_of}
use Rattle.dm_durable.specs.declared.daemon.DaemonRecord.{DaemonRecord}
use Rattle.dm_durable.specs.declared.daemon.DaemonTables.{DaemonTables}
use Rattle.dm_durable.specs.Tables.{ByNumber}
use Rattle.dm_host.specs.Disk.{Disk, Image}
use Rattle.dm_host.specs.Works.{Works}
use Rattle.dm_journal.specs.Grammar.{longest}
use Rattle.dm_model.specs.declared.state.Daemon.{Daemon}
use Rattle.dm_model.specs.declared.state.OpenRequest.{OpenRequest}
use Rattle.dm_model.specs.DaemonShare.{with_change_on}

abbrev pub state_of : TheDaemon → Daemon
state_of m = record {
  cap = m.cap;
  tables = tables_of m.journalled.tables;
  requests = m.requests.rows.rows;
  next_request = m.requests.next;
  doubt = option_map record_of m.journalled.pending;
}

-- the step in doubt, if one is
abbrev pub doubt_of : TheDaemon → Option DaemonRecord
doubt_of m = option_map record_of m.journalled.pending

-- no step is in doubt
pub record IsSure (m : TheDaemon) : Type 0 where
  pub none : m.journalled.pending ≡ None
  pub store : m.journalled.store.doubt ≡ Sure

-- What the calls need whatever the disk tells: a store that stands, room for the longest payload, and the inode that the
-- step in doubt changes, if it changes one.
pub record Stands (d : Disk) (m : TheDaemon) : Type 0 where
  pub sits : Sits d m.journalled
  pub room : longest ≤ length m.buffer.items
  pub found : (requests : ByNumber OpenRequest)
      → with_change_on requests m.found.1 m.found.0 ≡ requests_after_doubt (tables_of m.journalled.tables) requests (doubt_of m)

-- an image stands for these tables, with or without the step in doubt
abbrev pub StandsForEither : ℕ → DaemonTables → Option DaemonRecord → Image → Type 0
StandsForEither component t doubt x = (landed : Bool) × StandsForTables component (after_settling landed doubt t) x

abbrev pub StandsForDaemon : TheDaemon → Image → Type 0
StandsForDaemon m x = StandsForEither m.journalled.store.component (tables_of m.journalled.tables) (doubt_of m) x

-- A call keeps the disk: it holds what the daemon is after the call, if it held what it was before. At each moment of the
-- call a crash leaves an image that stands for the one or for the other.
pub record KeepsDisk (a b : Disk) (old new : TheDaemon) : Type 0 where
  pub stands : Stands b new
  pub kept : OnDisk a old.journalled → OnDisk b new.journalled
  pub component : new.journalled.store.component ≡ old.journalled.store.component
  pub any_moment : OnDisk a old.journalled → Works (Mine old.journalled.store.component) a b (λ x. StandsForDaemon old x ⊎ StandsForDaemon new x)
