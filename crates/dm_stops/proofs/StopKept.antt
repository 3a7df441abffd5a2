-- The end of the program, and the start after it, keep the invariant.
use Rattle.std.proofs.Common.{◌≡◌, ℕ, Bool, true, false, cond, Some, is_some, List, refl, sym, ap, subst, inl, inr, arith}
use Rattle.std.specs.FinMap as map
use Rattle.std.proofs.Common.{nat_cmp}
use Rattle.dm_base.specs.declared.identifier.GroupId.{GroupId}
use Rattle.dm_tables.specs.Rows.{EachRow, map_values}
use Rattle.dm_tables.proofs.Orders.{numbers}
use Rattle.dm_tables.proofs.Adjusted.{get-mapped, each-map}
use Rattle.dm_tables.proofs.Rows.{each-empty}
use Rattle.dm_durable.specs.declared.daemon.DaemonStep.TheVariants.{Restart}
use Rattle.dm_durable.specs.declared.daemon.DaemonTables.{DaemonTables}
use Rattle.dm_durable.specs.declared.daemon.Entry.{Entry}
use Rattle.dm_durable.specs.declared.daemon.Inode.{Inode}
use Rattle.dm_durable.specs.Tables.{ByNumber}
use Rattle.dm_durable.specs.Daemon.{after_record, after_stop}
use Rattle.dm_durable.specs.Entries.{groups_asked}
use Rattle.dm_durable.specs.Inodes.{has_making}
use Rattle.dm_model.specs.declared.answer.Answer.{Answer}
use Rattle.dm_model.specs.declared.call.Event.TheVariants as event
use Rattle.dm_model.specs.declared.state.Joint.{Joint}
use Rattle.dm_model.specs.declared.state.OpenRequest.{OpenRequest}
use Rattle.dm_model.specs.declared.state.Side.{Side}
use Rattle.dm_model.specs.SideShare.{side_after_stop}
use Rattle.dm_model.specs.Step as machine
use Rattle.dm_model.specs.Step.{Stepped, step}
use Rattle.dm_invariant.specs.Doubts.{AllConfigured}
use Rattle.dm_invariant.specs.Files.{DumpsKept, FilesKept, TakenKept}
use Rattle.dm_invariant.specs.Kept.{InvariantHolds, SideOf, committed_in, deleted_in}
use Rattle.dm_invariant.specs.Requests.{RecallsKept, RequestsKept}
use Rattle.dm_invariant.proofs.LookUps.{none_in_empty}
use Rattle.dm_invariant.proofs.Options.{mapped_value, there_as}
use Rattle.dm_landing.proofs.EntriesGone.{go_itself}
use Rattle.dm_landing.proofs.Fates.{EntriesGo, fate_steady}
use Rattle.dm_landing.proofs.FilesWith.{NamedIn, NoneComes}
use Rattle.dm_landing.proofs.SidesOnward.{side_onward}
use Rattle.dm_landing.proofs.TakenLanded.{taken_step}
use Rattle.dm_effects.proofs.Stopped.{side_stopped}
use Rattle.dm_stops.specs.Closed.{Closed, SideClosed}
use Rattle.dm_stops.proofs.Restarted.{dumps_restarted, ended_all, files_restarted, goes_over}

-- ---- the daemon's tables

-- what is kept of the tables that a stop leaves, and what it made of the entries; each put has ended
pub record TablesStopped (j : Joint) (u : DaemonTables) : Type 0 where
  pub files : FilesKept u j.history.contents j.daemon.cap
  pub dumps : DumpsKept u.time.0 u.entries u.dumps
  pub taken : TakenKept u.site u.counter u.entries j.history.taken
  pub go : EntriesGo (NamedIn u.inodes) j.sides j.daemon.requests j.daemon.tables.time.0 j.daemon.tables.age NoneComes j.daemon.tables.entries u.entries
  pub ended : has_making u.inodes ≡ false

module _ (j : Joint) (k : InvariantHolds j) where
  tables_left : (o : Bool) → has_making j.daemon.tables.inodes ≡ o
      → TablesStopped j (cond o (after_record j.daemon.tables (record { time = j.daemon.tables.time; step = Restart })) j.daemon.tables)
  tables_left true making =
      let t = j.daemon.tables in
      let c = j.history.contents in
      record {
        files = files_restarted t c j.daemon.cap j.sides j.daemon.requests t.time.0 k.files (omega arith);
        dumps = dumps_restarted t c j.daemon.cap j.sides j.daemon.requests t.time.0 k.files (omega arith) k.dumps;
        taken = taken_step j.daemon j.history t.time.0 k.files k.taken Restart making;
        go = goes_over t c j.daemon.cap j.sides j.daemon.requests t.time.0 k.files (omega arith);
        ended = ended_all t.inodes;
      }
  tables_left false none = record {
    files = k.files;
    dumps = k.dumps;
    taken = k.taken;
    go = go_itself (NamedIn j.daemon.tables.inodes) j.sides j.daemon.requests j.daemon.tables.time.0 j.daemon.tables.age NoneComes j.daemon.tables.entries;
    ended = none;
  }

  pub tables_stopped : TablesStopped j (after_stop j.daemon.tables)
  tables_stopped = tables_left (has_making j.daemon.tables.inodes) refl

-- ---- what is open

requests_none : (inodes : ByNumber Inode) (entries : ByNumber Entry) (contents : ByNumber (List ℕ)) → RequestsKept map.empty 0 inodes entries contents
requests_none inodes entries contents = record {
  numbers = each-empty nat_cmp _;
  entry = each-empty nat_cmp _;
  content = each-empty nat_cmp _;
  puts = each-empty nat_cmp _;
  recalls = each-empty nat_cmp _;
  puts_apart = λ k l r s is other a b same. absurd (none_in_empty nat_cmp map.empty k r refl is);
}

recalls_none : (requests : ByNumber OpenRequest) (entries : ByNumber Entry) (contents : ByNumber (List ℕ)) → RecallsKept map.empty requests entries contents
recalls_none requests entries contents = record {
  kept = each-empty nat_cmp _;
  apart = λ v w k x y r s is other a b. absurd (none_in_empty nat_cmp map.empty v x refl is);
}

-- ---- groups

abbrev SidesLeft : ByNumber Side → ByNumber Side
SidesLeft sides = map_values (λ g. side_after_stop) sides

still_configured : (sides : ByNumber Side) (groups : List GroupId) → AllConfigured sides groups → AllConfigured (SidesLeft sides) groups
still_configured sides groups all = λ g among.
    there_as _ _ (sym (get-mapped numbers (λ g. side_after_stop) sides g.0)) (mapped_value side_after_stop (map.get sides g.0) (all g among))

module _ (j : Joint) (k : InvariantHolds j) where
  abbrev Left : DaemonTables
  Left = after_stop j.daemon.tables

  configured_left : EachRow Left.entries (λ b e. AllConfigured (SidesLeft j.sides) (groups_asked e))
  configured_left = λ b f is.
      let go = (tables_stopped j k).go in
      elim (go.comes b f is) [
        | inl was ↦
            subst (λ groups. AllConfigured (SidesLeft j.sides) groups) (sym (fate_steady (go.fates b was.0 was.1) f is).groups)
            (still_configured j.sides (groups_asked was.0) (k.configured b was.0 was.1))
        | inr none ↦ absurd none
      ]

  side_left : (g : ℕ) (s : Side) → map.get j.sides g ≡ Some s → SideOf (machine.after_stop j) g (side_after_stop s)
  side_left g s is =
      let h = map.get j.history.groups g in
      side_stopped Left.entries j.history.contents j.history.taken j.daemon.requests map.empty g (committed_in h) (deleted_in h) s
      (side_onward (NamedIn Left.inodes) j.sides j.daemon.requests j.daemon.requests j.daemon.tables.time.0 j.daemon.tables.age NoneComes
      j.daemon.tables.entries Left.entries j.history.contents j.history.contents j.history.taken j.history.taken (tables_stopped j k).go
      (λ b f none. absurd none) (λ b bytes at. at) (λ b u at. ap is_some at) g (committed_in h) (deleted_in h) s is k.requests.entry
      (λ n b put. put) (k.sides g s is))

  -- what the end of the program leaves keeps the invariant
  pub stopped_kept : InvariantHolds (machine.after_stop j)
  stopped_kept =
      let t = tables_stopped j k in
      record {
        files = t.files;
        dumps = t.dumps;
        taken = t.taken;
        requests = requests_none Left.inodes Left.entries j.history.contents;
        recalls = recalls_none map.empty Left.entries j.history.contents;
        configured = configured_left;
        sides = each-map numbers (SideOf (machine.after_stop j)) (λ g. side_after_stop) j.sides side_left;
        doubt = tt;
      }

stop_is : (j k : Joint) (w : ℕ) (a : Answer) → step j w event.Stop ≡ Stepped k a → machine.after_stop j ≡ k
stop_is j k w a is = cc

-- so does a stop
pub stopped_keeps : (j k : Joint) (w : ℕ) (a : Answer) → InvariantHolds j → step j w event.Stop ≡ Stepped k a → InvariantHolds k
stopped_keeps j k w a kept is = subst InvariantHolds (stop_is j k w a is) (stopped_kept j kept)

-- ---- what is left open

left_ended : (t : DaemonTables) (o : Bool) → has_making t.inodes ≡ o
    → has_making (cond o (after_record t (record { time = t.time; step = Restart })) t).inodes ≡ false
left_ended t true making = ended_all t.inodes
left_ended t false none = none

side_closed : (s : Side) → SideClosed (side_after_stop s)
side_closed s = record {
  reservations = refl;
  group_mounts = refl;
  moves = refl;
  reuses = refl;
  tips = refl;
  copies = refl;
  mounts = refl;
  doubt = refl;
}

stop_closes : (j : Joint) → Closed (machine.after_stop j)
stop_closes j = record {
  requests = refl;
  doubt = refl;
  workers = refl;
  ended = left_ended j.daemon.tables (has_making j.daemon.tables.inodes) refl;
  sides = each-map numbers (λ g s. SideClosed s) (λ g. side_after_stop) j.sides (λ g s is. side_closed s);
}

-- nothing is open after a stop
pub stopped_closed : (j k : Joint) (w : ℕ) (a : Answer) → step j w event.Stop ≡ Stepped k a → Closed k
stopped_closed j k w a is = subst Closed (stop_is j k w a is) (stop_closes j)
