-- A record of the daemon that lands keeps the invariant.
use Rattle.std.proofs.Common.{◌≡◌, ℕ, Option, Some, None, List, refl, sym, subst}
use Rattle.std.specs.FinMap as map
use Rattle.dm_durable.specs.declared.daemon.DaemonRecord.{DaemonRecord}
use Rattle.dm_durable.specs.declared.daemon.DaemonStep.{DaemonStep}
use Rattle.dm_durable.specs.declared.daemon.DaemonStep.TheVariants.{Write, Remove, BeginPut, Stored, EndPut, Release, Taken, Dump, Undump, Restore, HardDelete, Dropped, Restart, Age}
use Rattle.dm_durable.specs.declared.daemon.DaemonTables.{DaemonTables}
use Rattle.dm_durable.specs.Tables.{ByNumber}
use Rattle.dm_durable.specs.Daemon.{after_begin_put, after_begin_put_at, after_record, after_release, after_remove, after_restore, after_step}
use Rattle.dm_durable.specs.Dumps.{file_in}
use Rattle.dm_durable.specs.declared.daemon.DumpInode.{DumpInode}
use Rattle.dm_durable.specs.declared.daemon.Inode.{Inode}
use Rattle.dm_base.specs.declared.identifier.Bfid.{Bfid}
use Rattle.dm_base.specs.declared.identifier.GroupId.{GroupId}
use Rattle.dm_base.specs.declared.identifier.Ino.{Ino}
use Rattle.dm_invariant.specs.Files.{DumpsKept}
use Rattle.dm_model.specs.declared.plan.Payload.TheVariants as payload
use Rattle.dm_model.specs.declared.state.Daemon.{Daemon}
use Rattle.dm_model.specs.declared.state.GroupHistory.{GroupHistory}
use Rattle.dm_model.specs.declared.state.History.{History}
use Rattle.dm_model.specs.declared.state.Joint.{Joint}
use Rattle.dm_model.specs.declared.state.Side.{Side}
use Rattle.dm_model.specs.DaemonShare.{requests_after_step}
use Rattle.dm_model.specs.Effects.{after_payload, history_after_step}
use Rattle.dm_invariant.specs.Doubts.{MayLand, MayLandIf}
use Rattle.dm_invariant.specs.Kept.{InvariantHolds, SideKept, committed_in, deleted_in}
use Rattle.dm_landing.proofs.DumpsLanded.{dumps_landed}
use Rattle.dm_landing.proofs.EntriesGone.{FreshEntry}
use Rattle.dm_landing.proofs.EntriesLanded.{configured_go, contents_onward, step_goes}
use Rattle.dm_landing.proofs.FilesLanded.{files_landed}
use Rattle.dm_landing.proofs.FilesWith.{NamedIn}
use Rattle.dm_landing.proofs.RecallsLanded.{requests_landed, recalls_landed}
use Rattle.dm_landing.proofs.RequestsLanded.{put_of_request}
use Rattle.dm_landing.proofs.SidesOnward.{side_onward}
use Rattle.dm_landing.proofs.TakenLanded.{taken_landed, taken_stays}

-- a step of the daemon is nothing that a group has done
pub groups_same : (d : Daemon) (h : History) (s : DaemonStep) → (history_after_step d s h).groups ≡ h.groups
groups_same d h (Write path change bytes) = refl
groups_same d h (Remove path change) = refl
groups_same d h (BeginPut path b groups) = refl
groups_same d h (Stored b g) = refl
groups_same d h (EndPut n b dual) = refl
groups_same d h (Release path) = refl
groups_same d h (Taken n bytes) = refl
groups_same d h (Dump name) = refl
groups_same d h (Undump name) = refl
groups_same d h (Restore name path target change) = refl
groups_same d h (HardDelete bfids) = refl
groups_same d h (Dropped b) = refl
groups_same d h Restart = refl
groups_same d h (Age age) = refl

removed_time : (t : DaemonTables) (path : List ℕ) (change : ℕ) (o : Option Ino) → (after_remove t path change o).time ≡ t.time
removed_time t path change None = refl
removed_time t path change (Some n) = refl

begun_time : (t : DaemonTables) (b : Bfid) (groups : List GroupId) (n : ℕ) (o : Option Inode) → (after_begin_put t b groups n o).time ≡ t.time
begun_time t b groups n None = refl
begun_time t b groups n (Some i) = refl

begun_time_at : (t : DaemonTables) (b : Bfid) (groups : List GroupId) (o : Option Ino) → (after_begin_put_at t b groups o).time ≡ t.time
begun_time_at t b groups None = refl
begun_time_at t b groups (Some n) = begun_time t b groups n.0 (map.get t.inodes n.0)

released_time : (t : DaemonTables) (o : Option Ino) → (after_release t o).time ≡ t.time
released_time t None = refl
released_time t (Some n) = refl

restored_time : (t : DaemonTables) (target : List ℕ) (change : ℕ) (o : Option DumpInode) → (after_restore t target change o).time ≡ t.time
restored_time t target change None = refl
restored_time t target change (Some f) = refl

-- a step leaves the time that its record gave
pub time_same : (t : DaemonTables) (s : DaemonStep) → (after_step t s).time ≡ t.time
time_same t (Write path change bytes) = refl
time_same t (Remove path change) = removed_time t path change (map.get t.names path)
time_same t (BeginPut path b groups) = begun_time_at t b groups (map.get t.names path)
time_same t (Stored b g) = refl
time_same t (EndPut n b dual) = refl
time_same t (Release path) = released_time t (map.get t.names path)
time_same t (Taken n bytes) = refl
time_same t (Dump name) = refl
time_same t (Undump name) = refl
time_same t (Restore name path target change) = restored_time t target change (file_in (map.get t.dumps name) path)
time_same t (HardDelete bfids) = refl
time_same t (Dropped b) = refl
time_same t Restart = refl
time_same t (Age age) = refl

module _ (j : Joint) (r : DaemonRecord) (k : InvariantHolds j)
    (may : MayLand j.daemon.tables j.daemon.requests j.history.contents j.daemon.cap j.sides r) where
  abbrev New : DaemonTables
  New = after_record j.daemon.tables r

  abbrev NewHistory : History
  NewHistory = history_after_step j.daemon r.step j.history

  side_later : (g : ℕ) (s : Side) → map.get j.sides g ≡ Some s
      → SideKept New.entries NewHistory.contents NewHistory.taken (requests_after_step j.daemon r.step) g
      (committed_in (map.get j.history.groups g)) (deleted_in (map.get j.history.groups g)) s
  side_later g s is =
      side_onward (NamedIn New.inodes) j.sides j.daemon.requests (requests_after_step j.daemon r.step) r.time.0 j.daemon.tables.age
      (FreshEntry j.daemon.tables.site j.daemon.tables.counter r.time.0 j.history.contents j.sides) j.daemon.tables.entries New.entries
      j.history.contents NewHistory.contents j.history.taken NewHistory.taken
      (step_goes j.daemon.tables j.history.contents j.daemon.cap j.sides j.daemon.requests r.time.0 k.files may.follow.time r.step may.follow.step may.needs)
      (λ b f fresh. (fresh.none, fresh.unstored)) (contents_onward j.daemon j.history j.sides r k.files may) (taken_stays j.daemon j.history r.step) g
      (committed_in (map.get j.history.groups g)) (deleted_in (map.get j.history.groups g)) s is k.requests.entry (put_of_request j.daemon r.step) (k.sides g s is)

  -- the invariant is kept by a record of the daemon that may land, where none is in doubt
  pub daemon_record_landed : j.daemon.doubt ≡ None → InvariantHolds (after_payload (Some (payload.Daemon r)) j)
  daemon_record_landed settled = record {
    files = files_landed j.daemon j.history j.sides r k.files may;
    dumps =
        subst (λ time. DumpsKept time.0 New.entries New.dumps) (sym (time_same (record j.daemon.tables { time = r.time }) r.step))
        (dumps_landed j.daemon j.history j.sides r k.files may k.dumps);
    taken = taken_landed j.daemon j.history j.sides r k.files may k.taken;
    requests = requests_landed j.daemon j.history j.sides r k.files may k.requests;
    recalls = recalls_landed j.daemon j.history j.sides r k.files may j.workers k.requests k.recalls;
    configured =
        configured_go (NamedIn New.inodes) j.sides j.daemon.requests r.time.0 j.daemon.tables.age j.daemon.tables.site j.daemon.tables.counter
        j.history.contents j.daemon.tables.entries New.entries
        (step_goes j.daemon.tables j.history.contents j.daemon.cap j.sides j.daemon.requests r.time.0 k.files may.follow.time r.step may.follow.step may.needs)
        k.configured;
    sides = λ g s is.
        subst (λ (groups : ByNumber GroupHistory). SideKept New.entries NewHistory.contents NewHistory.taken (requests_after_step j.daemon r.step) g
        (committed_in (map.get groups g)) (deleted_in (map.get groups g)) s) (sym (groups_same j.daemon j.history r.step)) (side_later g s is);
    doubt =
        subst (λ o. MayLandIf New (requests_after_step j.daemon r.step) NewHistory.contents j.daemon.cap j.sides o) (sym settled) tt;
  }
