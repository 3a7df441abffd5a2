-- A daemon whose tables keep more places is alike.
use Rattle.std.proofs.Common.{◌≡◌, ◌⊎◌, inl, inr, ⊎_elim, ℕ, ◌≤◌, Option, None, option_map, IfSome, Result, length, sym, ap, ◌∙◌, subst}
use Rattle.std.specs.Bool.{⊤}
use Rattle.dm_base.specs.declared.error.DaemonError.{DaemonError}
use Rattle.dm_ckpt.specs.Files.{Mine}
use Rattle.dm_ckpt.specs.State.{At, Stands as StoreStands}
use Rattle.dm_daemon.proofs.Moments.{holds_alike, stands_alike}
use Rattle.dm_daemon.specs.declared.daemon.Daemon.{Daemon as TheDaemon}
use Rattle.dm_daemon.specs.Calls.{ComesTo, Journals, MayJournal}
use Rattle.dm_daemon.specs.Changed.{requests_after_doubt}
use Rattle.dm_daemon.specs.State.{IsSure, KeepsDisk, Stands, StandsForDaemon, doubt_of, state_of}
use Rattle.dm_daemon_journal.specs.declared.kept.Journalled.{Journalled}
use Rattle.dm_daemon_tables.specs.declared.prepared.Prepared.{Prepared}
use Rattle.dm_daemon_tables.specs.Prepared.{IsReady, record_of}
use Rattle.dm_daemon_tables.specs.Tables.{state_of as tables_of}
use Rattle.dm_durable.specs.declared.daemon.DaemonRecord.{DaemonRecord}
use Rattle.dm_durable.specs.DaemonConditions.{MayFollow}
use Rattle.dm_host.specs.Disk.{Disk}
use Rattle.dm_host.specs.Works.{Works}
use Rattle.dm_host.proofs.Moments.{weaker}
use Rattle.dm_journal.specs.Grammar.{longest}
use Rattle.dm_model.specs.DaemonShare.{with_change_on}

-- the same store, tables and step in doubt
pub record IsAlike (old mid : TheDaemon) : Type 0 where
  pub store : mid.journalled.store ≡ old.journalled.store
  pub tables : tables_of mid.journalled.tables ≡ tables_of old.journalled.tables
  pub doubt : doubt_of mid ≡ doubt_of old

pub disk_alike : (a b : Disk) (old mid new : TheDaemon) → IsAlike old mid → KeepsDisk a b mid new → KeepsDisk a b old new
disk_alike a b old mid new alike k =
    let c = old.journalled.store.component in
    let same : mid.journalled.store.component ≡ c = ap (λ (s : At). s.component) alike.store in
    record {
      stands = k.stands;
      kept = λ holds.
          k.kept (holds_alike a old.journalled.store mid.journalled.store (tables_of old.journalled.tables) (tables_of mid.journalled.tables) (doubt_of old) (doubt_of mid)
          alike.store alike.tables alike.doubt holds);
      component = k.component ∙ same;
      any_moment = λ holds.
          let mine : Works (Mine c) a b (λ x. StandsForDaemon mid x ⊎ StandsForDaemon new x) =
          subst (λ (n : ℕ). Works (Mine n) a b (λ x. StandsForDaemon mid x ⊎ StandsForDaemon new x)) same
          (k.any_moment (holds_alike a old.journalled.store mid.journalled.store (tables_of old.journalled.tables) (tables_of mid.journalled.tables) (doubt_of old) (doubt_of mid)
          alike.store alike.tables alike.doubt holds)) in
          weaker (Mine c) a b (λ x. StandsForDaemon mid x ⊎ StandsForDaemon new x) (λ x. StandsForDaemon old x ⊎ StandsForDaemon new x) mine
          (λ x either.
          ⊎_elim
          (λ is.
          inl (stands_alike mid.journalled.store.component c (tables_of mid.journalled.tables) (tables_of old.journalled.tables) (doubt_of mid) (doubt_of old) x
          (sym same) (sym alike.tables) (sym alike.doubt) is))
          (λ is. inr is) either);
    }

pub journals_alike : (a b : Disk) (m n : ℕ) (old mid new : TheDaemon) (r : DaemonRecord) (result : Result ⊤ DaemonError) → IsAlike old mid → state_of mid ≡ state_of old
    → mid.landed ≡ old.landed → Journals a b m n mid new r result → Journals a b m n old new r result
journals_alike a b m n old mid new r result alike same landed j = record {
  comes = subst (λ d. ComesTo d r (state_of new) result) same j.comes;
  landed = j.landed ∙ landed;
  disk = disk_alike a b old mid new alike j.disk;
  counts = j.counts;
}

-- what the calls need, of a daemon whose store is the same and in which no step is in doubt
pub stands_mid : (a : Disk) (old mid : TheDaemon) → Stands a old → old.journalled.pending ≡ None → mid.journalled.store ≡ old.journalled.store
    → mid.journalled.pending ≡ None → longest ≤ length mid.buffer.items → mid.found ≡ old.found → Stands a mid
stands_mid a old mid stands was store none room found = record {
  sits = record {
    store = subst (λ (s : At). StoreStands a s) (sym store) stands.sits.store;
    ready = subst (λ (o : Option Prepared). IfSome o (λ p. IsReady mid.journalled.tables p)) (sym none) tt;
  };
  room = room;
  found = λ requests.
      ap (λ f. with_change_on requests f.1 f.0) found ∙ stands.found requests
      ∙ ap (λ (o : Option Prepared). requests_after_doubt (tables_of old.journalled.tables) requests (option_map record_of o)) was
      ∙ sym (ap (λ (o : Option Prepared). requests_after_doubt (tables_of mid.journalled.tables) requests (option_map record_of o)) none);
}

pub sure_mid : (old mid : TheDaemon) → IsSure old → mid.journalled.store ≡ old.journalled.store → mid.journalled.pending ≡ None → IsSure mid
sure_mid old mid sure store none = record { none = none; store = ap (λ (s : At). s.doubt) store ∙ sure.store }

-- ---- a payload that is written

-- a daemon with other bytes where payloads are written is the same
pub spelled_alike : (s m : TheDaemon) → m.journalled ≡ s.journalled → IsAlike s m
spelled_alike s m same = record {
  store = ap (λ (j : Journalled). j.store) same;
  tables = ap (λ (j : Journalled). tables_of j.tables) same;
  doubt = ap (λ (j : Journalled). option_map record_of j.pending) same;
}

pub may_spelled : (a : Disk) (s m : TheDaemon) (r : DaemonRecord) → MayJournal a s r → m.journalled ≡ s.journalled → m.found ≡ s.found
    → length m.buffer.items ≡ length s.buffer.items → MayJournal a m r
may_spelled a s m r may same found size =
    let store : m.journalled.store ≡ s.journalled.store = ap (λ (j : Journalled). j.store) same in
    let none : m.journalled.pending ≡ None = ap (λ (j : Journalled). j.pending) same ∙ may.sure.none in
    record {
      sure = sure_mid s m may.sure store none;
      stands = stands_mid a s m may.stands may.sure.none store none (subst (λ (n : ℕ). longest ≤ n) (sym size) may.stands.room) found;
      fits = may.fits;
      short = may.short;
      may = subst (λ (j : Journalled). MayFollow (tables_of j.tables) r) (sym same) may.may;
    }
