-- The calls of a group that mount, unmount, give up, or only tell keep the joint state.
use Rattle.std.proofs.Common.{◌≡◌, inl, inr, ℕ, ◌+◌, ◌-◌, ◌≤◌, ◌||◌, Bool, true, false, cond, nat_eq, nat_lt, not, Option, Some, None, List, option_map, refl, sym, ap, subst, ◌∙◌, arith}
use Rattle.std.proofs.Common.{eqb-true, leb-true, ltb-false}
use Rattle.std.proofs.lemmas.Bool.{and_parts, or_parts}
use Rattle.std.specs.FinMap as map
use Rattle.dm_base.specs.declared.identifier.Bfid.{Bfid}
use Rattle.dm_base.specs.declared.identifier.GroupId.{GroupId}
use Rattle.dm_base.specs.declared.serial.Vsn.{Vsn}
use Rattle.dm_base.specs.declared.volume.Chunk.{Chunk}
use Rattle.dm_base.specs.declared.volume.Piece.{Piece}
use Rattle.dm_tables.specs.Rows.{EachRow}
use Rattle.dm_tables.proofs.Any.{any-false}
use Rattle.dm_tables.proofs.Orders.{numbers}
use Rattle.dm_durable.specs.declared.daemon.Entry.{Entry}
use Rattle.dm_durable.specs.declared.group.BitfileRow.{BitfileRow}
use Rattle.dm_durable.specs.declared.group.GroupRecord.{GroupRecord}
use Rattle.dm_durable.specs.declared.group.GroupStep.{GroupStep}
use Rattle.dm_durable.specs.declared.group.GroupStep.TheVariants as step
use Rattle.dm_durable.specs.Group.{chunk_at}
use Rattle.dm_durable.specs.GroupConditions.{MayGroupStep}
use Rattle.dm_durable.specs.Tables.{ByNumber, same_text}
use Rattle.dm_model.specs.declared.answer.Answer.{Answer}
use Rattle.dm_model.specs.declared.state.CopyReservation.{CopyReservation}
use Rattle.dm_model.specs.declared.state.CopyState.{CopyState}
use Rattle.dm_model.specs.declared.state.GroupHistory.{GroupHistory}
use Rattle.dm_model.specs.declared.state.Joint.{Joint}
use Rattle.dm_model.specs.declared.state.Mounted.{Mounted}
use Rattle.dm_model.specs.declared.state.MountState.{MountState}
use Rattle.dm_model.specs.declared.state.Moving.{Moving}
use Rattle.dm_model.specs.declared.state.Origin.TheVariants as origin
use Rattle.dm_model.specs.declared.state.Reserved.{Reserved}
use Rattle.dm_model.specs.declared.state.Side.{Side}
use Rattle.dm_model.specs.declared.state.Worker.{Worker}
use Rattle.dm_model.specs.GroupCalls.{abort, abort_needs, group_healing_plan, drop_move, group_quiet_plan, is_of_move, is_unmounted, may_unmount, mount_chunk, mount_chunk_needs, mount_chunk_of, mount_new, mount_piece, mount_piece_of, piece_at, reservation_in, unmount, unmount_needs}
use Rattle.dm_model.specs.Plan.{Needs, Plan, no_needs}
use Rattle.dm_model.specs.declared.plan.Ending.TheVariants as ending
use Rattle.dm_model.specs.SideShare.{side_after_ending, side_without_doubt}
use Rattle.dm_model.specs.Volumes.{epoch_of, free_drives, is_mounted}
use Rattle.dm_invariant.specs.Among.{IsAmong}
use Rattle.dm_invariant.specs.Doubts.{GroupMayLandIf, GroupStepNeeds}
use Rattle.dm_invariant.specs.Kept.{InvariantHolds, committed_in, deleted_in}
use Rattle.dm_invariant.specs.Mounts.{mounted_of}
use Rattle.dm_invariant.specs.Reservations.{ZoneInHand}
use Rattle.dm_invariant.proofs.Options.{none_some}
use Rattle.dm_invariant.proofs.Texts.{same_texts}
use Rattle.dm_landing.proofs.VolumeChunkLists.{chunk_among}
use Rattle.dm_landing.proofs.VolumesOnward.{piece_among}
use Rattle.dm_effects.proofs.MountEnded.{side_mount_ended}
use Rattle.dm_effects.proofs.MountOpened.{DoubtTakes, Takes, side_mount_opened}
use Rattle.dm_effects.proofs.MoveEnded.{side_move_ended}
use Rattle.dm_effects.proofs.ReservationEnded.{ReservationEnds, side_reservation_ended}
use Rattle.dm_effects.proofs.Settled.{side_healed}
use Rattle.dm_group_effects.proofs.GroupPlans.{CallKept, never_kept, opening_kept, step_kept}
use Rattle.dm_group_effects.proofs.MoveOpened.{live_once, live_reads}
use Rattle.dm_group_effects.proofs.SideChanges.{KeptAs}

-- ---- what isn't mounted

-- no mount is open of a volume that isn't mounted
pub unmounted_of : (group_mounts : ByNumber Mounted) (mounts : ByNumber MountState) (vsn : List ℕ)
    → ((m : ℕ) → map.get group_mounts m ≡ option_map mounted_of (map.get mounts m)) → is_mounted group_mounts vsn ≡ false
    → EachRow mounts (λ m y. y.vsn.0 ≡ vsn → ⊥)
unmounted_of group_mounts mounts vsn same none = λ m y is at.
    let there : map.get group_mounts m ≡ Some (mounted_of y) = same m ∙ ap (option_map mounted_of) is in
    let fails = any-false numbers (λ q (x : Mounted). same_text x.vsn.0 vsn) group_mounts none m (mounted_of y) there in
    let passes = same_texts y.vsn.0 vsn at in
    cc

-- a volume that isn't mounted, and more drives that are free than this
pub record Mountable (s : Side) (others : ℕ) (vsn : List ℕ) : Type 0 where
  pub unmounted : EachRow s.mounts (λ m y. y.vsn.0 ≡ vsn → ⊥)
  pub drives : others + 1 ≤ s.group.conf.drives - map.len s.group.mounts

pub mountable : (s : Side) (others : ℕ) (vsn : List ℕ)
    → ((m : ℕ) → map.get s.group.mounts m ≡ option_map mounted_of (map.get s.mounts m))
    → (is_mounted s.group.mounts vsn || nat_lt (free_drives s.group) (others + 1)) ≡ false → Mountable s others vsn
mountable s others vsn same none =
    let parts = or_parts _ _ none in
    record { unmounted = unmounted_of s.group.mounts s.mounts vsn same parts.0; drives = ltb-false (free_drives s.group) (others + 1) parts.1 }

-- a step in doubt takes no volume on which a piece is reserved
module _ (g : ℕ) (entries : ByNumber Entry) (contents : ByNumber (List ℕ)) (taken deleted : ByNumber (Unit {0})) (s : Side) (n : ℕ) (r : Reserved)
    (p : Piece) (there : map.get s.group.reservations n ≡ Some r) (among : IsAmong p r.pieces)
    (hand : ZoneInHand s.group.tables.volumes s.group.tips r.chunk p) where
  step_spares : (now : ℕ) (x : GroupStep) → MayGroupStep s.group.tables x → GroupStepNeeds g entries contents taken deleted s now x
      → Takes p.vsn.0 x → ⊥
  step_spares now (step.Volume vsn slot version size) may needs takes =
      none_some (map.get s.group.tables.volumes p.vsn.0) hand.volume (ap (map.get s.group.tables.volumes) (sym takes) ∙ may.new) hand.is
  step_spares now (step.Commit b len chunks) may needs takes = takes
  step_spares now (step.Delete b) may needs takes = takes
  step_spares now (step.Move b from to) may needs takes = takes
  step_spares now (step.Free vsn) may needs takes = needs.unused.unreserved n r there p among (sym takes)
  step_spares now (step.Reuse vsn epoch version) may needs takes = needs.unused.unreserved n r there p among (sym takes)

  doubt_spares : (o : Option GroupRecord) → GroupMayLandIf g entries contents taken deleted s o → DoubtTakes p.vsn.0 o → ⊥
  doubt_spares None may takes = takes
  doubt_spares (Some r) may takes = step_spares r.time.0 r.step may.follow.step may.needs takes

-- the copy of a reservation without mounts
unmounted_copy : (n : ℕ) (o : Option CopyState) (c : CopyState) (held : CopyReservation) → is_unmounted n (reservation_in o) ≡ true
    → o ≡ Some c → c.reservation ≡ Some held → map.len held.mounts ≡ 0
unmounted_copy n o c held free is has =
    let e : is_unmounted n (Some held) ≡ true = subst (λ r. is_unmounted n r ≡ true) (ap reservation_in is ∙ has) free in
    eqb-true (map.len held.mounts) 0 (and_parts _ _ e).1

pub reservation_ends : (s : Side) (n : ℕ) (r : Reserved) → map.get s.group.reservations n ≡ Some r
    → is_unmounted n (reservation_in (map.get s.copies r.bfid.0)) ≡ true → ReservationEnds s.group.reservations s.copies n r.bfid.0
reservation_ends s n r is free = record {
  reserved = r;
  is = is;
  same = refl;
  free = λ c held there has. unmounted_copy n (map.get s.copies r.bfid.0) c held free there has;
}

module _ (j : Joint) (kept : InvariantHolds j) (w : ℕ) (g : GroupId) (s : Side) (side : map.get j.sides g.0 ≡ Some s) where
  abbrev done : Option GroupHistory
  done = map.get j.history.groups g.0

  abbrev own : KeptAs j g.0 done s
  own = kept.sides g.0 s side

  pub healed_side : KeptAs j g.0 done (side_without_doubt true s)
  healed_side =
      side_healed j.daemon.tables.entries j.history.contents j.history.taken j.daemon.requests g.0 (committed_in done) (deleted_in done) true s own

  -- ---- calls that only tell

  pub quiet_kept : (a : Answer) (n : Needs) → CallKept j w (group_quiet_plan g a) n
  quiet_kept a n = step_kept j kept w g s side (group_quiet_plan g a) n (record {
    is = record { group = refl; unmarked = refl; unmade = refl; healed = inr refl };
    of = tt;
    ends = λ all. own;
    pays = λ all none. tt;
  })

  pub asking_kept : (a : Answer) (n : Needs) → CallKept j w (group_healing_plan g a) n
  asking_kept a n = step_kept j kept w g s side (group_healing_plan g a) n (record {
    is = record { group = refl; unmarked = refl; unmade = refl; healed = inl refl };
    of = tt;
    ends = λ all. own;
    pays = λ all none. tt;
  })

  -- ---- mounts

  pub mount_new_kept : (vsn : Vsn) (m : ℕ) → CallKept j w (mount_new g s.group vsn m) no_needs
  mount_new_kept vsn m = opening_kept j kept w g s side (mount_new g s.group vsn m) no_needs (record {
    is = record { group = refl; unended = refl; unpaid = refl; unmarked = refl };
    of = refl;
    opens = λ all none.
        let may = mountable s 0 vsn.0 own.mounts.same none.0 in
        let drives = may.drives in
        side_mount_opened j.daemon.tables.entries j.history.contents j.history.taken j.daemon.requests g.0 (committed_in done) (deleted_in done)
        (side_without_doubt true s) g m vsn (epoch_of s.group vsn.0) _
        (record {
          number = leb-true s.group.next_mount m all.1.0;
          epoch_is = refl;
          unmounted = may.unmounted;
          drive = omega (arith, drives);
          fits = record { configured = all.0; same = refl };
          reads = tt;
          once = tt;
          beside = λ takes. takes;
        })
        healed_side;
  })

  mount_piece_at : (n k m : ℕ) (r : Reserved) → map.get s.group.reservations n ≡ Some r → (o : Option Piece) → piece_at k r.pieces ≡ o
      → CallKept j w (mount_piece_of g s.group r k m o) no_needs
  mount_piece_at n k m r is None at = never_kept j w (mount_piece_of g s.group r k m None) no_needs (λ all. let f = all.0 in cc)
  mount_piece_at n k m r is (Some p) at = opening_kept j kept w g s side (mount_piece_of g s.group r k m (Some p)) no_needs (record {
    is = record { group = refl; unended = refl; unpaid = refl; unmarked = refl };
    of = refl;
    opens = λ all none.
        let may = mountable s 0 p.vsn.0 own.mounts.same none.0 in
        let drives = may.drives in
        let mine = own.reservations.reservation n r is in
        let among = piece_among k r.pieces p at in
        side_mount_opened j.daemon.tables.entries j.history.contents j.history.taken j.daemon.requests g.0 (committed_in done) (deleted_in done)
        s g m p.vsn (epoch_of s.group p.vsn.0) _
        (record {
          number = leb-true s.group.next_mount m all.0;
          epoch_is = refl;
          unmounted = may.unmounted;
          drive = omega (arith, drives);
          fits = record {
            copy = mine.copy;
            is = mine.is;
            held = mine.held;
            has = mine.has;
            reserved = r;
            there = ap (map.get s.group.reservations) mine.number ∙ is;
            same = refl;
            cut = refl;
            piece = at;
            volume = refl;
          };
          reads = tt;
          once = tt;
          beside = doubt_spares g.0 j.daemon.tables.entries j.history.contents j.history.taken (deleted_in done) s n r p is among
              (mine.zones p among) s.group.doubt own.doubt;
        })
        own;
  })

  pub mount_piece_kept : (n k m : ℕ) (o : Option Reserved) → map.get s.group.reservations n ≡ o → CallKept j w (mount_piece g s.group k m o) no_needs
  mount_piece_kept n k m None is = never_kept j w (mount_piece g s.group k m None) no_needs (λ all. let f = all.0 in cc)
  mount_piece_kept n k m (Some r) is = mount_piece_at n k m r is (piece_at k r.pieces) refl

  mount_chunk_at : (b : Bfid) (offset m : ℕ) (x : Option Worker) (row : BitfileRow) → map.get s.group.tables.bitfiles b.0 ≡ Some row
      → (o : Option Chunk) → chunk_at offset row.chunks ≡ o → CallKept j w (mount_chunk_of g s.group b m o) (mount_chunk_needs x g b)
  mount_chunk_at b offset m x row is None at =
      never_kept j w (mount_chunk_of g s.group b m None) (mount_chunk_needs x g b) (λ all. let f = all.0 in cc)
  mount_chunk_at b offset m x row is (Some c) at =
      opening_kept j kept w g s side (mount_chunk_of g s.group b m (Some c)) (mount_chunk_needs x g b) (record {
        is = record { group = refl; unended = refl; unpaid = refl; unmarked = refl };
        of = refl;
        opens = λ all none.
            let may = mountable s 0 c.vsn.0 own.mounts.same none.0 in
            let drives = may.drives in
            side_mount_opened j.daemon.tables.entries j.history.contents j.history.taken j.daemon.requests g.0 (committed_in done) (deleted_in done)
            (side_without_doubt true s) g m c.vsn (epoch_of s.group c.vsn.0) (origin.Chunk b c)
            (record {
              number = leb-true s.group.next_mount m all.1.0;
              epoch_is = refl;
              unmounted = may.unmounted;
              drive = omega (arith, drives);
              fits = refl;
              reads = live_reads j.daemon.tables.entries j.history.contents j.history.taken j.daemon.requests g.0 (committed_in done) (deleted_in done)
                  (side_without_doubt true s) b.0 row c is (chunk_among offset row.chunks c at) healed_side;
              once = live_once j.daemon.tables.entries j.history.contents j.history.taken j.daemon.requests g.0 (committed_in done) (deleted_in done)
                  (side_without_doubt true s) (epoch_of s.group c.vsn.0) b.0 row c is (chunk_among offset row.chunks c at) healed_side;
              beside = λ takes. takes;
            })
            healed_side;
      })

  either_kept : (end : Bool) (p q : Plan) (n : Needs) → CallKept j w p n → CallKept j w q n → CallKept j w (cond end p q) n
  either_kept true p q n one two = one
  either_kept false p q n one two = two

  pub mount_chunk_kept : (b : Bfid) (offset m : ℕ) (x : Option Worker) (o : Option BitfileRow) → map.get s.group.tables.bitfiles b.0 ≡ o
      → CallKept j w (mount_chunk g s.group b offset m o) (mount_chunk_needs x g b)
  mount_chunk_kept b offset m x None is =
      never_kept j w (mount_chunk_of g s.group b m None) (mount_chunk_needs x g b) (λ all. let f = all.0 in cc)
  mount_chunk_kept b offset m x (Some row) is =
      either_kept (nat_eq offset row.len) _ (mount_chunk_of g s.group b m (chunk_at offset row.chunks)) (mount_chunk_needs x g b)
      (asking_kept _ (mount_chunk_needs x g b)) (mount_chunk_at b offset m x row is (chunk_at offset row.chunks) refl)

  -- ---- what ends

  unmountable : (o : Option MountState) (x : MountState) → may_unmount o ≡ true → o ≡ Some x → is_of_move x.origin ≡ false
  unmountable o x may is =
      let e : not (is_of_move x.origin) ≡ true = subst (λ y. may_unmount y ≡ true) is may in
      not_move (is_of_move x.origin) e
    where
      not_move : (b : Bool) → not b ≡ true → b ≡ false
      not_move true e = cc
      not_move false e = refl

  pub unmounted_side : (m : ℕ) → may_unmount (map.get s.mounts m) ≡ true
      → KeptAs j g.0 done (side_after_ending (ending.Mount g m) s)
  unmounted_side m may =
      side_mount_ended j.daemon.tables.entries j.history.contents j.history.taken j.daemon.requests g.0 (committed_in done) (deleted_in done) s g m
      (λ x is. unmountable (map.get s.mounts m) x may is) own

  pub unmount_kept : (m : ℕ) (o : Option Mounted) → map.get s.group.mounts m ≡ o → CallKept j w (unmount g m o) (unmount_needs (map.get s.mounts m))
  unmount_kept m None is = never_kept j w (unmount g m None) (unmount_needs (map.get s.mounts m)) (λ all. let f = all.0 in cc)
  unmount_kept m (Some x) is = step_kept j kept w g s side (unmount g m (Some x)) (unmount_needs (map.get s.mounts m)) (record {
    is = record { group = refl; unmarked = refl; unmade = refl; healed = inr refl };
    of = refl;
    ends = λ all. unmounted_side m all.0;
    pays = λ all none. tt;
  })

  pub drop_move_kept : (job : ℕ) (o : Option Moving) → map.get s.group.moves job ≡ o → CallKept j w (drop_move g job o) no_needs
  drop_move_kept job None is = never_kept j w (drop_move g job None) no_needs (λ all. let f = all.0 in cc)
  drop_move_kept job (Some x) is = step_kept j kept w g s side (drop_move g job (Some x)) no_needs (record {
    is = record { group = refl; unmarked = refl; unmade = refl; healed = inr refl };
    of = refl;
    ends = λ all.
        side_move_ended j.daemon.tables.entries j.history.contents j.history.taken j.daemon.requests g.0 (committed_in done) (deleted_in done) s g job x is
        own;
    pays = λ all none. tt;
  })

  pub abort_kept : (n : ℕ) (o : Option Reserved) → map.get s.group.reservations n ≡ o → CallKept j w (abort g n o) (abort_needs s.copies n o)
  abort_kept n None is = never_kept j w (abort g n None) (abort_needs s.copies n None) (λ all. let f = all.0 in cc)
  abort_kept n (Some r) is = step_kept j kept w g s side (abort g n (Some r)) (abort_needs s.copies n (Some r)) (record {
    is = record { group = refl; unmarked = refl; unmade = refl; healed = inr refl };
    of = refl;
    ends = λ all.
        side_reservation_ended j.daemon.tables.entries j.history.contents j.history.taken j.daemon.requests g.0 (committed_in done) (deleted_in done) s g
        n r.bfid (reservation_ends s n r is all.0) own;
    pays = λ all none. tt;
  })
