-- What the calls need of a daemon that has just begun.
use Rattle.std.proofs.Common.{◌≡◌, ◌∙◌, ◌≤◌, ℕ, Option, None, option_map, IfSome, length, sym, ap, subst}
use Rattle.dm_ckpt.specs.State.{At, Stands as StoreStands}
use Rattle.dm_daemon.specs.declared.daemon.Daemon.{Daemon as TheDaemon}
use Rattle.dm_daemon.specs.Changed.{requests_after_doubt}
use Rattle.dm_daemon.specs.State.{Stands}
use Rattle.dm_daemon_tables.specs.declared.prepared.Prepared.{Prepared}
use Rattle.dm_daemon_tables.specs.Prepared.{IsReady, record_of}
use Rattle.dm_daemon_tables.specs.Tables.{state_of as tables_of}
use Rattle.dm_base.specs.declared.identifier.Ino.{Ino}
use Rattle.dm_host.specs.Disk.{Disk}
use Rattle.dm_journal.specs.Grammar.{longest}
use Rattle.dm_model.specs.DaemonShare.{with_change_on}

-- no step is in doubt, and the store stands
pub begun_stands : (a : Disk) (s : At) (m : TheDaemon) → StoreStands a s → m.journalled.store ≡ s → m.journalled.pending ≡ None → longest ≤ length m.buffer.items
    → m.found ≡ (None, 0) → Stands a m
begun_stands a s m stands store none room found = record {
  sits = record {
    store = subst (λ (u : At). StoreStands a u) (sym store) stands;
    ready = subst (λ (o : Option Prepared). IfSome o (λ p. IsReady m.journalled.tables p)) (sym none) tt;
  };
  room = room;
  found = λ requests.
      ap (λ (f : Option Ino × ℕ). with_change_on requests f.1 f.0) found
      ∙ sym (ap (λ (o : Option Prepared). requests_after_doubt (tables_of m.journalled.tables) requests (option_map record_of o)) none);
}
