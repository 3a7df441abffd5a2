-- The calls of a group that add, free and use volumes again, delete, and reserve keep the joint state.
use Rattle.std.proofs.Common.{◌≡◌, ◌⊎◌, inl, inr, ℕ, ◌+◌, ◌≤◌, ◌<◌, Bool, true, false, nat_eq, not, Option, Some, None, IsSome, is_some, List, option_map, refl, sym, ap, subst, ◌∙◌, arith}
use Rattle.std.specs.Prelude.{if◌then◌else◌}
use Rattle.std.specs.List.{list_any}
use Rattle.std.proofs.Common.{eqb-true, eq-eqb, leb-true, ltb-false}
use Rattle.std.proofs.lemmas.Bool.{and_parts}
use Rattle.std.specs.FinMap as map
use Rattle.dm_base.specs.Limits.{volumes_limit}
use Rattle.dm_base.specs.declared.identifier.Bfid.{Bfid}
use Rattle.dm_base.specs.declared.identifier.GroupId.{GroupId}
use Rattle.dm_base.specs.declared.identifier.Secs.{Secs}
use Rattle.dm_base.specs.declared.serial.Vsn.{Vsn}
use Rattle.dm_base.specs.declared.volume.Chunk.{Chunk}
use Rattle.dm_base.specs.declared.volume.Piece.{Piece}
use Rattle.dm_base.specs.declared.volume.VolState.TheVariants.{Empty, Filling, Full}
use Rattle.dm_rules.specs.Label.{first_zone}
use Rattle.dm_rules.specs.Numbers.{greater}
use Rattle.dm_rules.specs.Plan.{rooms}
use Rattle.dm_rules.specs.State.{is_in_use, state_of}
use Rattle.dm_tables.specs.Rows.{EachRow}
use Rattle.dm_tables.proofs.Any.{any-false, any-none}
use Rattle.dm_tables.proofs.Orders.{numbers}
use Rattle.dm_tables.proofs.Rows.{removed, removed-here}
use Rattle.dm_durable.specs.declared.group.BitfileRow.{BitfileRow}
use Rattle.dm_durable.specs.declared.group.GroupRecord.{GroupRecord}
use Rattle.dm_durable.specs.declared.group.GroupStep.TheVariants as step
use Rattle.dm_durable.specs.declared.group.VolumeRow.{VolumeRow}
use Rattle.dm_durable.specs.Group.{has_chunk_on, is_on}
use Rattle.dm_durable.specs.Tables.{ByNumber, same_text}
use Rattle.dm_durable.specs.Volumes.{is_freeable_in, room_in, spaces, tip_in}
use Rattle.dm_model.specs.declared.call.Component.TheVariants as component
use Rattle.dm_model.specs.declared.plan.Payload.TheVariants as payload
use Rattle.dm_model.specs.declared.state.CopyState.{CopyState}
use Rattle.dm_model.specs.declared.state.GroupHistory.{GroupHistory}
use Rattle.dm_model.specs.declared.state.Joint.{Joint}
use Rattle.dm_model.specs.declared.state.Label.{Label}
use Rattle.dm_model.specs.declared.state.Mounted.{Mounted}
use Rattle.dm_model.specs.declared.state.MountState.{MountState}
use Rattle.dm_model.specs.declared.state.Moving.{Moving}
use Rattle.dm_model.specs.declared.state.Origin.{Origin}
use Rattle.dm_model.specs.declared.state.Origin.TheVariants as origin
use Rattle.dm_model.specs.declared.state.Reserved.{Reserved}
use Rattle.dm_model.specs.declared.state.Reusing.{Reusing}
use Rattle.dm_model.specs.declared.state.Side.{Side}
use Rattle.dm_model.specs.Effects.{after_healing, after_payload}
use Rattle.dm_model.specs.GroupCalls.{add_volume, add_volume_needs, delete_needs, delete_of, free, free_of, group_time, is_labelled_new, is_new_label, is_of_move, is_reuse_label, may_reserve, may_unmount, reserve, reserve_needs, reuse, reuse_needs, was_relabelled}
use Rattle.dm_model.specs.Plan.{no_needs}
use Rattle.dm_model.specs.SideShare.{side_after_payload, side_without_doubt}
use Rattle.dm_model.specs.Volumes.{has_piece_on, is_reserved, usage_of}
use Rattle.dm_model.proofs.Shares.{healing-at, payload-at}
use Rattle.dm_invariant.specs.Among.{IsAmong}
use Rattle.dm_invariant.specs.Kept.{InvariantHolds, committed_in, deleted_in}
use Rattle.dm_invariant.specs.Mounts.{OriginKept, mounted_of}
use Rattle.dm_invariant.specs.Moves.{IsReadyAt}
use Rattle.dm_invariant.specs.Places.{Doubted, HasPlace, IsPut, Reserving as KeptPlace, Live, Owner, PlacesKept, Target}
use Rattle.dm_invariant.specs.Volumes.{IsOfConf}
use Rattle.dm_invariant.proofs.Lists.{one_passes, passing}
use Rattle.dm_invariant.proofs.Options.{no_value, none_of, same_row}
use Rattle.dm_invariant.proofs.Texts.{same_texts, texts_equal}
use Rattle.dm_group_effects.proofs.FreeSlots.{slot_free}
use Rattle.dm_group_effects.proofs.GroupPlans.{CallKept, doubted_keeps, never_kept, opening_kept, step_kept}
use Rattle.dm_group_effects.proofs.MountCalls.{healed_side, unmounted_of, unmounted_side}
use Rattle.dm_group_effects.proofs.MoveOpened.{chunk_some}
use Rattle.dm_group_effects.proofs.PartsKept.{Pays, deleted_keeps, healing_keeps, landing_keeps}
use Rattle.dm_group_effects.proofs.ReservationOpened.{side_reservation_opened}
use Rattle.dm_group_effects.proofs.SideChanges.{KeptAs}

-- ---- places of a record that puts nothing on volumes

puts_none : (bitfiles : ByNumber BitfileRow) (reservations : ByNumber Reserved) (moves : ByNumber Moving) (doubt : Option GroupRecord)
    (r : GroupRecord) → ((c : Chunk) → IsPut c r.step → ⊥) → (o : Owner) (vsn : List ℕ) (place : ℕ)
    → HasPlace bitfiles reservations moves (Some r) o vsn place → HasPlace bitfiles reservations moves doubt o vsn place
puts_none bitfiles reservations moves doubt r none (Live b offset) vsn place h = h
puts_none bitfiles reservations moves doubt r none (KeptPlace n offset) vsn place h = h
puts_none bitfiles reservations moves doubt r none (Target job) vsn place h = h
puts_none bitfiles reservations moves doubt r none (Doubted zone) vsn place h = absurd (none h.chunk h.among)

pub places_without : (bitfiles : ByNumber BitfileRow) (reservations : ByNumber Reserved) (moves : ByNumber Moving) (doubt : Option GroupRecord)
    (r : GroupRecord) → ((c : Chunk) → IsPut c r.step → ⊥)
    → PlacesKept bitfiles reservations moves doubt → PlacesKept bitfiles reservations moves (Some r)
places_without bitfiles reservations moves doubt r none k = λ o p vsn place one two.
    k o p vsn place (puts_none bitfiles reservations moves doubt r none o vsn place one) (puts_none bitfiles reservations moves doubt r none p vsn place two)

-- ---- mounts and their volumes

-- the mount that the group has
mount_there : (o : Option MountState) (x : Mounted) → Some x ≡ option_map mounted_of o → (y : MountState) × (o ≡ Some y) × (mounted_of y ≡ x)
mount_there None x e = absurd (cc)
mount_there (Some y) x e = (y, refl, cc)

-- once a mount has ended, no other is of its volume
pub unmounted_after : (mounts : ByNumber MountState) (m : ℕ) (y : MountState) (vsn : List ℕ) → map.get mounts m ≡ Some y → y.vsn.0 ≡ vsn
    → ((p q : ℕ) (a b : MountState) → map.get mounts p ≡ Some a → map.get mounts q ≡ Some b → a.vsn.0 ≡ b.vsn.0 → p ≡ q)
    → EachRow (map.remove mounts m) (λ q z. z.vsn.0 ≡ vsn → ⊥)
unmounted_after mounts m y vsn is volume apart = λ q z at same.
    let was = removed numbers mounts m q z at in
    was.0 (apart q m z y was.1 is (same ∙ sym volume))

-- whether a mount for this may end by itself
abbrev may_unmount_of : Origin → Bool
may_unmount_of made = not (is_of_move made)

new_unmounts : (made : Origin) (label : Option Label) → is_new_label made label ≡ true → may_unmount_of made ≡ true
new_unmounts (origin.New listed format) label e = refl
new_unmounts (origin.Piece b index piece chunk) label e = cc
new_unmounts (origin.Chunk b chunk) label e = cc
new_unmounts (origin.Source job b chunk) label e = cc
new_unmounts (origin.Target job b total chunk version) label e = cc
new_unmounts (origin.Reuse next_epoch version reading) label e = cc

labelled_unmounts : (o : Option MountState) → is_labelled_new o ≡ true → may_unmount o ≡ true
labelled_unmounts None e = refl
labelled_unmounts (Some x) e = new_unmounts x.origin x.labelled e

reuse_unmounts_of : (now : ℕ) (made : Origin) (label : Option Label) → is_reuse_label now made label ≡ true → may_unmount_of made ≡ true
reuse_unmounts_of now (origin.Reuse next_epoch version reading) label e = refl
reuse_unmounts_of now (origin.New listed format) label e = cc
reuse_unmounts_of now (origin.Piece b index piece chunk) label e = cc
reuse_unmounts_of now (origin.Chunk b chunk) label e = cc
reuse_unmounts_of now (origin.Source job b chunk) label e = cc
reuse_unmounts_of now (origin.Target job b total chunk version) label e = cc

reuse_unmounts : (now : ℕ) (o : Option MountState) → was_relabelled now o ≡ true → may_unmount o ≡ true
reuse_unmounts now None e = refl
reuse_unmounts now (Some x) e = reuse_unmounts_of now x.origin x.labelled e

-- a mount that was labelled as new is of a volume of the configuration
module _ (s : Side) where
  new_configured : (m : ℕ) (vsn : Vsn) (made : Origin) (label : Option Label)
      → OriginKept s.group.conf s.group.reservations s.copies s.group.moves s.group.reuses m vsn made → is_new_label made label ≡ true
      → IsOfConf s.group.conf vsn.0
  new_configured m vsn (origin.New listed format) label k e = k.configured
  new_configured m vsn (origin.Piece b index piece chunk) label k e = cc
  new_configured m vsn (origin.Chunk b chunk) label k e = cc
  new_configured m vsn (origin.Source job b chunk) label k e = cc
  new_configured m vsn (origin.Target job b total chunk version) label k e = cc
  new_configured m vsn (origin.Reuse next_epoch version reading) label k e = cc

-- ---- what is free

-- no piece is reserved on a volume that isn't reserved
unreserved_of : (reservations : ByNumber Reserved) (vsn : List ℕ) → is_reserved reservations vsn ≡ false
    → EachRow reservations (λ n r. (p : Piece) → IsAmong p r.pieces → p.vsn.0 ≡ vsn → ⊥)
unreserved_of reservations vsn none = λ n r is p among same.
    let fails = any-false numbers (λ q (x : Reserved). has_piece_on vsn x) reservations none n r is in
    let passes = one_passes (λ (q : Piece). same_text q.vsn.0 vsn) p r.pieces among (same_texts p.vsn.0 vsn same) in
    cc

-- a volume in use isn't held
use_free : (tip room : ℕ) (held : Option Secs) → is_in_use (state_of tip room held) ≡ true → held ≡ None
use_free tip room (Some since) e = cc
use_free tip room None e = refl

-- and its tip isn't the place behind the label
use_tip : (tip room : ℕ) (held : Option Secs) → is_in_use (state_of tip room held) ≡ true → tip ≡ first_zone → ⊥
use_tip tip room (Some since) e = cc
use_tip tip room None e =
    elim (nat_eq tip first_zone) as (λ b. nat_eq tip first_zone ≡ b
    → is_in_use (if b then Empty else if nat_eq room 0 then Full else Filling) ≡ true → tip ≡ first_zone → ⊥) [
      | true ↦ λ here used. absurd (cc)
      | false ↦ λ differs used same. let f = eq-eqb tip first_zone same in absurd (cc)
    ] refl e

-- ---- ready to be used again

ready_later : (now later hold tip : ℕ) (held : Option Secs) → now ≤ later → IsReadyAt now hold tip held → IsReadyAt later hold tip held
ready_later now later hold tip None on ready = ready
ready_later now later hold tip (Some since) on ready = omega (arith, on, ready)

-- a volume that is ready isn't in use, or its tip is behind the label
ready_tip : (now hold tip : ℕ) (held : Option Secs) → IsReadyAt now hold tip held → held ≡ None → tip ≡ first_zone
ready_tip now hold tip None ready none = ready
ready_tip now hold tip (Some since) ready none = cc

held_or_empty : (now hold tip end : ℕ) (held : Option Secs) → first_zone ≤ end → end ≤ tip → IsReadyAt now hold tip held
    → IsSome held ⊎ (end ≡ first_zone)
held_or_empty now hold tip end None low high ready = inr (omega (arith, low, high, ready))
held_or_empty now hold tip end (Some since) low high ready = inl refl

-- when a label was written last for a reuse, the clock read no less than as the reuse began
reading_before : (now : ℕ) (made : Origin) (label : Option Label) (next_epoch version : ℕ) (reading : Secs)
    → made ≡ origin.Reuse next_epoch version reading → is_reuse_label now made label ≡ true → reading.0 ≤ now
reading_before now made label next_epoch version reading is e =
    let f = subst (λ o. is_reuse_label now o label ≡ true) is e in
    leb-true reading.0 now (and_parts _ _ f).1

module _ (j : Joint) (kept : InvariantHolds j) (w : ℕ) (g : GroupId) (s : Side) (side : map.get j.sides g.0 ≡ Some s) where
  abbrev done : Option GroupHistory
  done = map.get j.history.groups g.0

  abbrev own : KeptAs j g.0 done s
  own = kept.sides g.0 s side

  -- ---- a new volume

  pub add_volume_kept : (m now : ℕ) (o : Option Mounted) → map.get s.group.mounts m ≡ o
      → CallKept j w (add_volume g s.group m now o) (add_volume_needs (map.get s.mounts m))
  add_volume_kept m now None is =
      never_kept j w (add_volume g s.group m now None) (add_volume_needs (map.get s.mounts m)) (λ all. let f = all.0 in cc)
  add_volume_kept m now (Some x) is =
      step_kept j kept w g s side (add_volume g s.group m now (Some x)) (add_volume_needs (map.get s.mounts m)) (record {
        is = record { group = refl; unmarked = refl; unmade = refl; healed = inl refl };
        of = refl;
        ends = λ all. unmounted_side j kept w g s side m (labelled_unmounts (map.get s.mounts m) all.1.1.0);
        pays = λ all none.
            let t = s.group.tables in
            let new = none_of (map.get t.volumes x.vsn.0) all.0 in
            let y = mount_there (map.get s.mounts m) x (sym is ∙ own.mounts.same m) in
            let labelled : is_new_label y.0.origin y.0.labelled ≡ true = subst (λ o. is_labelled_new o ≡ true) y.1 all.1.1.0 in
            let volume = ap (λ (z : Mounted). z.vsn) y.2 in
            let of = subst (λ (v : Vsn). IsOfConf s.group.conf v.0) volume
            (new_configured s m y.0.vsn y.0.origin y.0.labelled (own.mounts.origin m y.0 y.1) labelled) in
            let slot = slot_free t.volumes s.group.conf.volumes volumes_limit x.vsn.0 (λ v row there. (own.volumes.volume v row there).configured)
            own.volumes.fits.many of new in (
              refl,
              record {
                now = record {
                  may = record {
                    follow = record {
                      time = omega arith;
                      step = record {
                        new = new;
                        within = slot.within;
                        free = slot.free;
                        known = own.volumes.fits.format;
                        room = own.volumes.fits.sized;
                      };
                    };
                    needs = record {
                      configured = of;
                      sized = refl;
                      unmounted = unmounted_after s.mounts m y.0 x.vsn.0 y.1 (ap (λ (v : Vsn). v.0) volume) own.mounts.apart;
                    };
                  };
                  places = places_without t.bitfiles s.group.reservations s.group.moves s.group.doubt _ (λ c put. put) own.places;
                };
                lasting = λ b e there dropping not puts. puts;
              },
            );
      })

  -- ---- a reservation

  record Reservable (o : Option CopyState) (len : ℕ) : Type 0 where
    copy : CopyState
    is : o ≡ Some copy
    has : copy.reservation ≡ None
    sized : copy.len ≡ len

  reservable : (o : Option CopyState) (len : ℕ) → may_reserve o len ≡ true → Reservable o len
  reservable None len e = cc
  reservable (Some c) len e =
      let parts = and_parts _ _ e in
      record { copy = c; is = refl; has = none_of c.reservation parts.1; sized = eqb-true c.len len parts.0 }

  pub reserve_kept : (b : Bfid) (len n : ℕ) → CallKept j w (reserve g s.group b len n) (reserve_needs (map.get s.copies b.0) len)
  reserve_kept b len n = opening_kept j kept w g s side (reserve g s.group b len n) (reserve_needs (map.get s.copies b.0) len) (record {
    is = record { group = refl; unended = refl; unpaid = refl; unmarked = refl };
    of = refl;
    opens = λ all none.
        let c = reservable (map.get s.copies b.0) len all.1.0 in
        side_reservation_opened j.daemon.tables.entries j.history.contents j.history.taken j.daemon.requests g.0 (committed_in done) (deleted_in done)
        (side_without_doubt true s) g b len n
        (record {
          number = leb-true s.group.next_reservation n all.1.1.0;
          copy = c.copy;
          is = c.is;
          has = c.has;
          sized = c.sized;
          new = none_of (map.get s.group.tables.bitfiles b.0) all.0;
          room = ltb-false (rooms (spaces (usage_of s.group) s.group.tables.volumes)) len none.0;
          settled = refl;
        })
        (healed_side j kept w g s side);
  })

  -- ---- a copy is deleted

  delete_pays : (b : Bfid) (now : ℕ) → is_some (map.get s.group.tables.bitfiles b.0) ≡ true → IsSome (map.get j.history.taken b.0)
      → Pays j g.0 s (record { time = record { 0 = group_time s.group now }; step = step.Delete b })
  delete_pays b now there took = record {
    now = record {
      may = record { follow = record { time = omega arith; step = there }; needs = took };
      places = places_without s.group.tables.bitfiles s.group.reservations s.group.moves s.group.doubt _ (λ c put. put) own.places;
    };
    lasting = λ c e is dropping not puts. puts;
  }

  pub delete_kept : (b : Bfid) (now : ℕ) (there : Bool) → is_some (map.get s.group.tables.bitfiles b.0) ≡ there
      → CallKept j w (delete_of g s.group b now there) (delete_needs j.history b)
  delete_kept b now true is = record {
    answered = λ legal.
        let r : GroupRecord = record { time = record { 0 = group_time s.group now }; step = step.Delete b } in
        let healed = after_healing true (component.Group g) j in
        let landed = landing_keeps j kept g s side r (delete_pays b now is legal.0) in
        let after = payload-at g (Some (payload.Group g r)) healed.sides (side_without_doubt true s) refl (healing-at g true j.sides s side) in
        deleted_keeps (after_payload (Some (payload.Group g r)) healed) landed g
        (side_after_payload (Some (payload.Group g r)) (side_without_doubt true s)) after w b
        (record { away = removed-here numbers s.group.tables.bitfiles b.0; took = legal.0; settled = refl });
    failed = λ legal far.
        let r : GroupRecord = record { time = record { 0 = group_time s.group now }; step = step.Delete b } in
        doubted_keeps j kept g s side far (Some (payload.Group g r)) (refl, delete_pays b now is legal.0);
  }
  delete_kept b now false is = record {
    answered = λ legal.
        deleted_keeps (after_healing true (component.Group g) j) (healing_keeps j kept g s side true) g (side_without_doubt true s)
        (healing-at g true j.sides s side) w b
        (record { away = no_value (map.get s.group.tables.bitfiles b.0) is; took = legal.0; settled = refl });
    failed = λ legal far. doubted_keeps j kept g s side far None tt;
  }

  -- ---- a volume is freed

  free_of_kept : (vsn : Vsn) (now : ℕ) (v : VolumeRow) → map.get s.group.tables.volumes vsn.0 ≡ Some v
      → (freed : Bool) → is_freeable_in (usage_of s.group) s.group.tables vsn.0 v ≡ freed → CallKept j w (free_of g s.group vsn now freed) no_needs
  free_of_kept vsn now v is false freed = step_kept j kept w g s side (free_of g s.group vsn now false) no_needs (record {
    is = record { group = refl; unmarked = refl; unmade = refl; healed = inl refl };
    of = tt;
    ends = λ all. own;
    pays = λ all none. tt;
  })
  free_of_kept vsn now v is true freed = step_kept j kept w g s side (free_of g s.group vsn now true) no_needs (record {
    is = record { group = refl; unmarked = refl; unmade = refl; healed = inl refl };
    of = tt;
    ends = λ all. own;
    pays = λ all none.
        let t = s.group.tables in
        let u = usage_of s.group in
        let one = and_parts _ _ freed in
        let two = and_parts _ _ one.0 in
        let three = and_parts _ _ two.0 in
        let tip : ℕ = tip_in s.group.tips vsn.0 v in
        let free = use_free tip (room_in u vsn.0 v) v.held three.0 in
        let volume = own.volumes.volume vsn.0 v is in
        let label = volume.label in
        let end = volume.end in (
          refl,
          record {
            now = record {
              may = record {
                follow = record {
                  time = omega arith;
                  step = record { volume = v; is = is; usable = free; dead = is_not _ three.1 };
                };
                needs = record {
                  unused = record {
                    unmounted = unmounted_of s.group.mounts s.mounts vsn.0 own.mounts.same (is_not _ one.1);
                    unreserved = unreserved_of s.group.reservations vsn.0 (is_not _ two.1);
                  };
                  filled = λ x at.
                      let same : v ≡ x = same_row (map.get t.volumes vsn.0) v x is at in
                      let differs = use_tip tip (room_in u vsn.0 v) v.held three.0 in
                      subst (λ (y : VolumeRow). first_zone < tip_in s.group.tips vsn.0 y) same (above (tip_in s.group.tips vsn.0 v) label end differs);
                };
              };
              places = places_without t.bitfiles s.group.reservations s.group.moves s.group.doubt _ (λ c put. put) own.places;
            };
            lasting = λ c e there dropping not puts. puts;
          },
        );
  })
    where
      is_not : (b : Bool) → not b ≡ true → b ≡ false
      is_not true e = cc
      is_not false e = refl

      above : (tip : ℕ) {end : ℕ} → first_zone ≤ end → end ≤ tip → (tip ≡ first_zone → ⊥) → first_zone < tip
      above tip low high differs = omega (arith, low, high, differs)

  pub free_kept : (vsn : Vsn) (now : ℕ) (o : Option VolumeRow) → map.get s.group.tables.volumes vsn.0 ≡ o
      → CallKept j w (free g s.group vsn now o) no_needs
  free_kept vsn now None is = never_kept j w (free g s.group vsn now None) no_needs (λ all. let f = all.0 in cc)
  free_kept vsn now (Some v) is = free_of_kept vsn now v is (is_freeable_in (usage_of s.group) s.group.tables vsn.0 v) refl

  -- ---- a volume is used again

  -- no chunk is on a volume that is ready
  ready_dead : (now : ℕ) (vsn : List ℕ) (v : VolumeRow) → map.get s.group.tables.volumes vsn ≡ Some v
      → IsReadyAt now s.group.conf.hold (tip_in s.group.tips vsn v) v.held → has_chunk_on s.group.tables.bitfiles vsn ≡ false
  ready_dead now vsn v is ready =
      any-none (λ b (row : BitfileRow). list_any (is_on vsn) row.chunks) s.group.tables.bitfiles (λ b row at.
      elim (list_any (is_on vsn) row.chunks) as (λ t. list_any (is_on vsn) row.chunks ≡ t → t ≡ false) [
        | true ↦ λ some.
            let c = passing (is_on vsn) row.chunks some in
            let file = own.catalogue.bitfile b row at in
            let lies = file.lies c.0 c.1 in
            let here : lies.volume ≡ v = same_row (map.get s.group.tables.volumes vsn) lies.volume v
            (ap (map.get s.group.tables.volumes) (sym (texts_equal c.0.vsn.0 vsn c.2)) ∙ lies.is) is in
            let free : v.held ≡ None = ap (λ (x : VolumeRow). x.held) (sym here) ∙ lies.usable in
            let tip = ready_tip now s.group.conf.hold (tip_in s.group.tips vsn v) v.held ready free in
            let end = (own.volumes.volume vsn v is).end in
            let bytes = chunk_some 0 row.len row.chunks c.0 file.joins c.1 in
            let behind = lies.behind in
            let within : c.0.place + c.0.len ≤ v.end = subst (λ (x : VolumeRow). c.0.place + c.0.len ≤ x.end) here lies.within in
            absurd (omega (arith, tip, end, bytes, behind, within))
        | false ↦ λ none. refl
      ] refl)

  -- nor is one reserved there
  ready_unreserved : (now : ℕ) (vsn : List ℕ) (v : VolumeRow) → map.get s.group.tables.volumes vsn ≡ Some v
      → IsReadyAt now s.group.conf.hold (tip_in s.group.tips vsn v) v.held
      → EachRow s.group.reservations (λ n r. (p : Piece) → IsAmong p r.pieces → p.vsn.0 ≡ vsn → ⊥)
  ready_unreserved now vsn v is ready = λ n r at p among same.
      let hand = (own.reservations.reservation n r at).zones p among in
      let here : hand.volume ≡ v = same_row (map.get s.group.tables.volumes vsn) hand.volume v
      (ap (map.get s.group.tables.volumes) (sym same) ∙ hand.is) is in
      let free : v.held ≡ None = ap (λ (x : VolumeRow). x.held) (sym here) ∙ hand.usable in
      let tip = ready_tip now s.group.conf.hold (tip_in s.group.tips vsn v) v.held ready free in
      let at_tip : tip_in s.group.tips p.vsn.0 hand.volume ≡ tip_in s.group.tips vsn v =
      ap (λ k. tip_in s.group.tips k hand.volume) same ∙ ap (tip_in s.group.tips vsn) here in
      let behind = hand.behind in
      let within = hand.within in
      omega (arith, tip, at_tip, behind, within)

  pub reuse_kept : (m now : ℕ) (o : Option Reusing) → map.get s.group.reuses m ≡ o
      → CallKept j w (reuse g s.group m now o) (reuse_needs now (map.get s.mounts m))
  reuse_kept m now None is = never_kept j w (reuse g s.group m now None) (reuse_needs now (map.get s.mounts m)) (λ all. let f = all.0 in cc)
  reuse_kept m now (Some x) is = step_kept j kept w g s side (reuse g s.group m now (Some x)) (reuse_needs now (map.get s.mounts m)) (record {
    is = record { group = refl; unmarked = refl; unmade = refl; healed = inl refl };
    of = refl;
    ends = λ all. unmounted_side j kept w g s side m (reuse_unmounts now (map.get s.mounts m) all.0);
    pays = λ all none.
        let t = s.group.tables in
        let k = own.reuses m x is in
        let label : is_reuse_label now k.mount.origin k.mount.labelled ≡ true = subst (λ o. was_relabelled now o ≡ true) k.is all.0 in
        let before = reading_before now k.mount.origin k.mount.labelled x.next_epoch x.version k.reading k.made_for label in
        let time : ℕ = group_time s.group now in
        let later : greater k.reading.0 t.time.0 ≤ time = omega (arith, before) in
        let ready = ready_later (greater k.reading.0 t.time.0) time s.group.conf.hold (tip_in s.group.tips x.vsn.0 k.volume) k.volume.held later k.ready in
        let volume = own.volumes.volume x.vsn.0 k.volume k.known in (
          refl,
          record {
            now = record {
              may = record {
                follow = record {
                  time = omega arith;
                  step = record {
                    volume = k.volume;
                    is = k.known;
                    ready = held_or_empty time s.group.conf.hold (tip_in s.group.tips x.vsn.0 k.volume) k.volume.end k.volume.held volume.label
                        volume.end ready;
                    dead = ready_dead time x.vsn.0 k.volume k.known ready;
                    next = k.next;
                    left = k.left;
                    known = k.version;
                  };
                };
                needs = record {
                  unused = record {
                    unmounted = unmounted_after s.mounts m k.mount x.vsn.0 k.is (ap (λ (v : Vsn). v.0) k.same) own.mounts.apart;
                    unreserved = ready_unreserved time x.vsn.0 k.volume k.known ready;
                  };
                  ready = λ v at.
                      let same = same_row (map.get t.volumes x.vsn.0) k.volume v k.known at in
                      subst (λ (y : VolumeRow). IsReadyAt time s.group.conf.hold (tip_in s.group.tips x.vsn.0 y) y.held) same ready;
                };
              };
              places = places_without t.bitfiles s.group.reservations s.group.moves s.group.doubt _ (λ c put. put) own.places;
            };
            lasting = λ c e there dropping not puts. puts;
          },
        );
  })
