-- The calls of a group that choose a volume keep the joint state: the reuse of one that is ready, and the move of a chunk.
use Rattle.std.proofs.Common.{◌≡◌, ◌⊎◌, inl, inr, ℕ, ◌+◌, ◌-◌, Bool, true, false, cond, nat_eq, nat_le, Option, Some, None, is_some, List, [], ◌∷◌, length, refl, sym, ap, subst, ◌∙◌, arith}
use Rattle.std.specs.Prelude as prelude
use Rattle.std.specs.Prelude.{if◌then◌else◌}
use Rattle.std.specs.List.{AllByRecursion, filter, flat_map, list_all}
use Rattle.std.proofs.Common.{eqb-true, leb-true, ltb-true}
use Rattle.std.proofs.lemmas.Bool.{and_parts}
use Rattle.std.specs.FinMap as map
use Rattle.dm_base.specs.declared.identifier.GroupId.{GroupId}
use Rattle.dm_base.specs.declared.identifier.Secs.{Secs}
use Rattle.dm_base.specs.declared.serial.TheConstants.{VSN_LENGTH}
use Rattle.dm_base.specs.declared.serial.Vsn.{Vsn}
use Rattle.dm_base.specs.declared.volume.VolState.TheVariants.{Empty, Filling, Full}
use Rattle.dm_rules.specs.declared.space.Space.{Space}
use Rattle.dm_rules.specs.Label.{first_zone}
use Rattle.dm_rules.specs.Merge.{is_ready}
use Rattle.dm_rules.specs.Numbers.{last_u64}
use Rattle.dm_rules.specs.State.{state_of}
use Rattle.dm_tables.proofs.Entries.{entries-found}
use Rattle.dm_tables.proofs.Orders.{numbers, paths}
use Rattle.dm_durable.specs.declared.group.BitfileRow.{BitfileRow}
use Rattle.dm_durable.specs.declared.group.VolumeRow.{VolumeRow}
use Rattle.dm_durable.specs.Group.{is_on}
use Rattle.dm_durable.specs.Limits.{IsPast}
use Rattle.dm_durable.specs.Tables.{ByName, ByNumber}
use Rattle.dm_durable.specs.Volumes.{LiveChunk, Usage, chunks_on, destination_in, epoch_or, first_on, further_in_front, is_listed, is_reusable_in, least_placed, live_chunk, of_serial, reusable_in, room_in, tip_in}
use Rattle.dm_model.specs.declared.guard.Guard.TheVariants as guard
use Rattle.dm_model.specs.declared.state.GroupHistory.{GroupHistory}
use Rattle.dm_model.specs.declared.state.Joint.{Joint}
use Rattle.dm_model.specs.declared.state.Side.{Side}
use Rattle.dm_model.specs.GroupCalls.{group_time, merge_first, merge_next, merge_to, reuse_first, reuse_next}
use Rattle.dm_model.specs.Guards.{Guarded}
use Rattle.dm_model.specs.Plan.{Plan, no_needs}
use Rattle.dm_model.specs.SideShare.{side_without_doubt}
use Rattle.dm_model.specs.Volumes.{epoch_of, usage_of}
use Rattle.dm_invariant.specs.Among.{IsAmong}
use Rattle.dm_invariant.specs.Kept.{InvariantHolds, committed_in, deleted_in}
use Rattle.dm_invariant.specs.Moves.{IsReadyAt}
use Rattle.dm_invariant.proofs.Lists.{among_either, among_if, mapped_among}
use Rattle.dm_invariant.proofs.Texts.{texts_equal}
use Rattle.dm_invariant.proofs.Times.{still_past}
use Rattle.dm_effects.proofs.ReuseOpened.{side_reuse_opened}
use Rattle.dm_group_effects.proofs.GroupPlans.{CallKept, opening_kept, step_kept}
use Rattle.dm_group_effects.proofs.MountCalls.{asking_kept, healed_side, mountable, unmounted_of}
use Rattle.dm_group_effects.proofs.MoveOpened.{chunk_some, side_move_opened}
use Rattle.dm_group_effects.proofs.SideChanges.{KeptAs}
use Rattle.dm_group_effects.proofs.Spaces.{destination_is}
use Rattle.dm_group_effects.proofs.TipsMoved.{new_target}

-- ---- lists

flat_among : {X Y : Type 0} (f : X → List Y) (y : Y) (xs : List X) → IsAmong y (flat_map f xs) → (x : X) × IsAmong x xs × IsAmong y (f x)
flat_among f y [] among = absurd among
flat_among f y (x ∷ xs) among =
    elim (among_either y (f x) (flat_map f xs) among) [
      | inl here ↦ (x, inl refl, here)
      | inr after ↦ let z = flat_among f y xs after in (z.0, inr z.1, z.2)
    ]

filter_among : {X : Type 0} (t : X → Bool) (x : X) (xs : List X) → IsAmong x (filter t xs) → IsAmong x xs × (t x ≡ true)
filter_among t x [] among = absurd among
filter_among {X} t x (y ∷ ys) among =
    elim (t y) as (λ b. t y ≡ b → IsAmong x (cond b (y ∷ filter t ys) (filter t ys)) → ((x ≡ y) ⊎ IsAmong x ys) × (t x ≡ true)) [
      | true ↦ λ passes a. elim a [
        | inl same ↦ (inl same, ap t same ∙ passes)
        | inr after ↦ let z = filter_among t x ys after in (inr z.0, z.1)
      ]
      | false ↦ λ fails a. let z = filter_among t x ys a in (inr z.0, z.1)
    ] refl among

all_among : {X : Type 0} (P : X → Type 0) (x : X) (xs : List X) → AllByRecursion P xs → IsAmong x xs → P x
all_among P x [] all among = absurd among
all_among P x (y ∷ ys) all (inl same) = subst P (sym same) all.0
all_among P x (y ∷ ys) all (inr after) = all_among P x ys all.1 after

if_true : {X : Type 0} (b : Bool) (x : X) (xs : List X) → IsAmong x (cond b xs []) → b ≡ true
if_true true x xs among = refl
if_true false x xs among = absurd among

-- ---- a volume that is ready

-- a volume of the tables that may be used again
record Reusable (u : Usage) (now hold format : ℕ) (volumes : ByName VolumeRow) (vsn : List ℕ) : Type 0 where
  volume : VolumeRow
  is : map.get volumes vsn ≡ Some volume
  may : is_reusable_in u now hold format vsn volume ≡ true

module _ (u : Usage) (now hold format : ℕ) (volumes : ByName VolumeRow) where
  reusable_at : (vsn : List ℕ) (v : VolumeRow) (x : Vsn) → map.get volumes vsn ≡ Some v
      → IsAmong x (of_serial vsn (cond (is_reusable_in u now hold format vsn v) (record { 0 = vsn } ∷ []) [])) → Reusable u now hold format volumes x.0
  reusable_at vsn v x is among =
      let a = among_if (nat_eq (length vsn) VSN_LENGTH) x _ among in
      let may = if_true (is_reusable_in u now hold format vsn v) x _ a in
      let one = among_if (is_reusable_in u now hold format vsn v) x _ a in
      elim one [
        | inl same ↦
            subst (λ (y : Vsn). Reusable u now hold format volumes y.0) (sym same) (record { volume = v; is = is; may = may })
        | inr none ↦ absurd none
      ]

  reusable_is : (x : Vsn) → IsAmong x (reusable_in u now hold format volumes) → Reusable u now hold format volumes x.0
  reusable_is x among =
      let e = flat_among _ x (map.entries volumes) among in
      reusable_at e.0.0 e.0.1 x (all_among (λ e. map.get volumes e.0 ≡ Some e.1) e.0 (map.entries volumes) (entries-found paths volumes) e.1) e.2

never_in_use : (now hold format version room : ℕ)
    → is_ready now hold format version (if nat_eq room 0 then Full else Filling) ≡ true → ⊥
never_in_use now hold format version room e =
    elim (nat_eq room 0) as (λ b. is_ready now hold format version (if b then Full else Filling) ≡ true → ⊥) [
      | true ↦ λ f. absurd (cc)
      | false ↦ λ f. absurd (cc)
    ] e

-- what lets a volume be used again
ready_of : (now hold format version tip room : ℕ) (held : Option Secs) → is_ready now hold format version (state_of tip room held) ≡ true
    → IsPast now held → IsReadyAt now hold tip held
ready_of now hold format version tip room (Some since) e past =
    let long = leb-true hold (now - since.0) e in omega (arith, long, past)
ready_of now hold format version tip room None e past =
    elim (nat_eq tip first_zone) as (λ b. nat_eq tip first_zone ≡ b
    → is_ready now hold format version (if b then Empty else if nat_eq room 0 then Full else Filling) ≡ true → tip ≡ first_zone) [
      | true ↦ λ here f. eqb-true tip first_zone here
      | false ↦ λ differs f. absurd (never_in_use now hold format version room f)
    ] refl e

-- ---- the chunk that is moved

-- a chunk of a bitfile that stands on the volume
record LiveOn (bitfiles : ByNumber BitfileRow) (vsn : List ℕ) (l : LiveChunk) : Type 0 where
  row : BitfileRow
  is : map.get bitfiles l.bfid.0 ≡ Some row
  among : IsAmong l.chunk row.chunks
  on : l.chunk.vsn.0 ≡ vsn

front_one : (x : LiveChunk) (o : Option LiveChunk) → (further_in_front x o ≡ x) ⊎ (o ≡ Some (further_in_front x o))
front_one x None = inl refl
front_one x (Some y) =
    elim (nat_le x.chunk.place y.chunk.place) as (λ b. (cond b x y ≡ x) ⊎ (Some y ≡ Some (cond b x y))) [
      | true ↦ inl refl
      | false ↦ inr refl
    ]

least_among : (xs : List LiveChunk) (l : LiveChunk) → least_placed xs ≡ Some l → IsAmong l xs
least_among [] l e = absurd (cc)
least_among (x ∷ xs) l e =
    let same : further_in_front x (least_placed xs) ≡ l = cc in
    elim (front_one x (least_placed xs)) [
      | inl first ↦ inl (sym same ∙ first)
      | inr later ↦ inr (least_among xs l (later ∙ ap (λ y. Some y) same))
    ]

module _ (bitfiles : ByNumber BitfileRow) (vsn : List ℕ) where
  live_at : (b : ℕ) (row : BitfileRow) (l : LiveChunk) → map.get bitfiles b ≡ Some row
      → IsAmong l (prelude.map (live_chunk b row) (filter (is_on vsn) row.chunks)) → LiveOn bitfiles vsn l
  live_at b row l is among =
      let c = mapped_among (live_chunk b row) l (filter (is_on vsn) row.chunks) among in
      let f = filter_among (is_on vsn) c.0 row.chunks c.1 in
      subst (LiveOn bitfiles vsn) c.2 (record { row = row; is = is; among = f.0; on = texts_equal c.0.vsn.0 vsn f.1 })

  live_is : (l : LiveChunk) → first_on bitfiles vsn ≡ Some l → LiveOn bitfiles vsn l
  live_is l is =
      let e = flat_among _ l (map.entries bitfiles) (least_among (chunks_on bitfiles vsn) l is) in
      live_at e.0.0 e.0.1 l (all_among (λ e. map.get bitfiles e.0 ≡ Some e.1) e.0 (map.entries bitfiles) (entries-found numbers bitfiles) e.1) e.2

module _ (j : Joint) (kept : InvariantHolds j) (w : ℕ) (g : GroupId) (s : Side) (side : map.get j.sides g.0 ≡ Some s) where
  abbrev done : Option GroupHistory
  done = map.get j.history.groups g.0

  abbrev own : KeptAs j g.0 done s
  own = kept.sides g.0 s side

  -- ---- a reuse begins

  reuse_first_kept : (m now : ℕ) (vsns : List Vsn)
      → reusable_in (usage_of s.group) (group_time s.group now) s.group.conf.hold s.group.conf.format s.group.tables.volumes ≡ vsns
      → CallKept j w (reuse_first g s.group m now vsns) no_needs
  reuse_first_kept m now [] is = asking_kept j kept w g s side _ no_needs
  reuse_first_kept m now (vsn ∷ vsns) is = opening_kept j kept w g s side (reuse_first g s.group m now (vsn ∷ vsns)) no_needs (record {
    is = record { group = refl; unended = refl; unpaid = refl; unmarked = refl };
    of = refl;
    opens = λ all none.
        let t = s.group.tables in
        let conf = s.group.conf in
        let u = usage_of s.group in
        let time : ℕ = group_time s.group now in
        let r = reusable_is u time conf.hold conf.format t.volumes vsn (subst (IsAmong vsn) (sym is) (inl refl)) in
        let v = r.volume in
        let parts = and_parts _ _ r.may in
        let first = and_parts _ _ parts.0 in
        let may = mountable s 0 vsn.0 own.mounts.same none.0 in
        let drives = may.drives in
        let past = still_past t.time.0 time v.held (omega arith) (own.volumes.volume vsn.0 v r.is).freed in
        side_reuse_opened j.daemon.tables.entries j.history.contents j.history.taken j.daemon.requests g.0 (committed_in done) (deleted_in done)
        (side_without_doubt true s) g m (epoch_of s.group vsn.0) _ now
        (record {
          number = leb-true s.group.next_mount m all.0;
          epoch_is = refl;
          unmounted = may.unmounted;
          drive = omega (arith, drives);
          volume = v;
          known = r.is;
          next = ap (λ o. epoch_or o + 1) r.is;
          left = ltb-true v.epoch last_u64 first.1;
          version = own.volumes.fits.format;
          ready = ready_of time conf.hold conf.format v.version (tip_in s.group.tips vsn.0 v) (room_in u vsn.0 v) v.held first.0 past;
          settled = refl;
        })
        (healed_side j kept w g s side);
  })

  pub reuse_next_kept : (m now : ℕ) → CallKept j w (reuse_next g s.group m now) no_needs
  reuse_next_kept m now =
      reuse_first_kept m now
      (reusable_in (usage_of s.group) (group_time s.group now) s.group.conf.hold s.group.conf.format s.group.tables.volumes) refl

  -- ---- a move begins

  abbrev listed : List Vsn → Vsn → List Guarded
  listed merged source =
      (is_listed merged source.0, guard.SourceListed)
      ∷ (list_all (λ v. is_some (map.get s.group.tables.volumes v.0)) merged, guard.SourceListed)
      ∷ []

  -- the plan with the guards of its list
  abbrev of_list : List Vsn → Vsn → Plan → Plan
  of_list merged source p = record p { own = listed merged source }

  merge_to_kept : (merged : List Vsn) (source : Vsn) (l : LiveChunk) (job from to : ℕ) → LiveOn s.group.tables.bitfiles source.0 l
      → (o : Option Space) → destination_in (usage_of s.group) merged s.group.tables.volumes l.chunk.len ≡ o
      → CallKept j w (of_list merged source (merge_to g s.group merged l job from to o)) no_needs
  merge_to_kept merged source l job from to live None is =
      step_kept j kept w g s side (of_list merged source (merge_to g s.group merged l job from to None)) no_needs (record {
        is = record { group = refl; unmarked = refl; unmade = refl; healed = inl refl };
        of = tt;
        ends = λ all. own;
        pays = λ all none. tt;
      })
  merge_to_kept merged source l job from to live (Some sp) is =
      opening_kept j kept w g s side (of_list merged source (merge_to g s.group merged l job from to (Some sp))) no_needs (record {
        is = record { group = refl; unended = refl; unpaid = refl; unmarked = refl };
        of = refl;
        opens = λ all none.
            let t = s.group.tables in
            let u = usage_of s.group in
            let may = mountable s 1 l.chunk.vsn.0 own.mounts.same none.0 in
            let drives = may.drives in
            let d = destination_is u merged t.volumes l.chunk.len sp is in
            let file = own.catalogue.bitfile l.bfid.0 live.row live.is in
            let some = chunk_some 0 live.row.len live.row.chunks l.chunk file.joins live.among in
            let differ : l.chunk.vsn.0 ≡ sp.vsn.0 → ⊥ = λ same.
            let f = ap (is_listed merged) (sym live.on ∙ same) in
            let one = all.0 in
            let two = d.unlisted in
            absurd (cc) in
            side_move_opened j.daemon.tables.entries j.history.contents j.history.taken j.daemon.requests g.0 (committed_in done) (deleted_in done)
            (side_without_doubt true s) g job (epoch_of s.group l.chunk.vsn.0) (epoch_of s.group sp.vsn.0) _
            (record {
              number = leb-true s.group.next_move job all.1.1.0;
              first = leb-true s.group.next_mount from all.1.1.1.0;
              next = leb-true (from + 1) to all.1.1.1.1.0;
              source_epoch_is = refl;
              target_epoch_is = refl;
              source_free = may.unmounted;
              target_free = unmounted_of s.group.mounts s.mounts sp.vsn.0 own.mounts.same d.unmounted;
              differ = differ;
              drives = omega (arith, drives);
              row = live.row;
              is = live.is;
              among = live.among;
              zone = new_target u t.volumes sp l.chunk.len own.volumes.fits.chunk (λ vsn v at. (own.volumes.volume vsn v at).tip) d.of some d.room;
              moved = record { offset = refl; len = refl; place = refl; sum = refl };
              settled = refl;
            })
            (healed_side j kept w g s side);
      })

  merge_first_kept : (merged : List Vsn) (source : Vsn) (job from to : ℕ) (o : Option LiveChunk) → first_on s.group.tables.bitfiles source.0 ≡ o
      → CallKept j w (of_list merged source (merge_first g s.group merged job from to o)) no_needs
  merge_first_kept merged source job from to None is =
      step_kept j kept w g s side (of_list merged source (merge_first g s.group merged job from to None)) no_needs (record {
        is = record { group = refl; unmarked = refl; unmade = refl; healed = inl refl };
        of = tt;
        ends = λ all. own;
        pays = λ all none. tt;
      })
  merge_first_kept merged source job from to (Some l) is =
      merge_to_kept merged source l job from to (live_is s.group.tables.bitfiles source.0 l is)
      (destination_in (usage_of s.group) merged s.group.tables.volumes l.chunk.len) refl

  pub merge_next_kept : (merged : List Vsn) (source : Vsn) (job from to : ℕ) → CallKept j w (merge_next g s.group merged source job from to) no_needs
  merge_next_kept merged source job from to = merge_first_kept merged source job from to (first_on s.group.tables.bitfiles source.0) refl
