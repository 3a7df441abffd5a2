-- Copies whose reservations change by a relation between before and after, and what is still kept of a side with them.
use Rattle.std.proofs.Common.{◌≡◌, ℕ, Some, None, Option, List, option_map, refl, sym, ap, subst, ◌∙◌, inl, inr}
use Rattle.std.specs.FinMap as map
use Rattle.dm_base.specs.declared.conf.GroupConf.{GroupConf}
use Rattle.dm_base.specs.declared.serial.Vsn.{Vsn}
use Rattle.dm_base.specs.declared.volume.Piece.{Piece}
use Rattle.dm_tables.specs.Rows.{EachRow, adjust}
use Rattle.dm_tables.proofs.Orders.{numbers, same_or}
use Rattle.dm_tables.proofs.Adjusted.{adjusted, adjusted_row, adjusted-beside}
use Rattle.dm_durable.specs.declared.daemon.Entry.{Entry}
use Rattle.dm_durable.specs.declared.group.BitfileRow.{BitfileRow}
use Rattle.dm_durable.specs.declared.group.VolumeRow.{VolumeRow}
use Rattle.dm_durable.specs.Tables.{ByNumber, ByName}
use Rattle.dm_model.specs.declared.state.CopyReservation.{CopyReservation}
use Rattle.dm_model.specs.declared.state.CopyState.{CopyState}
use Rattle.dm_model.specs.declared.state.Image.{Image}
use Rattle.dm_model.specs.declared.state.Moving.{Moving}
use Rattle.dm_model.specs.declared.state.OpenRequest.{OpenRequest}
use Rattle.dm_model.specs.declared.state.Origin.{Origin}
use Rattle.dm_model.specs.declared.state.Origin.TheVariants as origin
use Rattle.dm_model.specs.declared.state.Reserved.{Reserved}
use Rattle.dm_model.specs.declared.state.Reusing.{Reusing}
use Rattle.dm_model.specs.SideShare.{reservation_by}
use Rattle.dm_model.specs.GroupCalls.{piece_at}
use Rattle.dm_invariant.specs.Mounts.{OriginKept}
use Rattle.dm_invariant.specs.Reservations.{WrittenKept, ReservationKept, CopyKept}
use Rattle.dm_invariant.proofs.Options.{same_row}

-- the reservations that a copy has before and after
abbrev HeldBy : (CopyReservation → CopyReservation → Type 0) → Option CopyReservation → Option CopyReservation → Type 0
HeldBy R None None = Unit {0}
HeldBy R None (Some k) = ⊥
HeldBy R (Some h) None = ⊥
HeldBy R (Some h) (Some k) = R h k

-- a copy before and after
pub record CopyBy (R : CopyReservation → CopyReservation → Type 0) (c d : CopyState) : Type 0 where
  pub request : d.request ≡ c.request
  pub len : d.len ≡ c.len
  pub held : HeldBy R c.reservation d.reservation

-- a table of copies before and after
pub record CopiesBy (R : CopyReservation → CopyReservation → Type 0) (old new : ByNumber CopyState) : Type 0 where
  pub stays : EachRow old (λ b c. (d : CopyState) × (map.get new b ≡ Some d) × CopyBy R c d)
  pub comes : EachRow new (λ b d. (c : CopyState) × (map.get old b ≡ Some c) × CopyBy R c d)

module _ (R : CopyReservation → CopyReservation → Type 0) where
  by_each : (f : CopyReservation → CopyReservation) → ((h : CopyReservation) → R h (f h)) → (o : Option CopyReservation)
      → HeldBy R o (option_map f o)
  by_each f each None = tt
  by_each f each (Some h) = each h

  -- the reservation that a copy has after it, from the one before
  held_after : (o p : Option CopyReservation) (h : CopyReservation) → o ≡ Some h → HeldBy R o p → (k : CopyReservation) × (p ≡ Some k) × R h k
  held_after None p h e on = cc
  held_after (Some x) None h e on = absurd on
  held_after (Some x) (Some k) h e on = (k, refl, subst (λ (y : CopyReservation). R y k) (same_row (Some x) x h refl e) on)

  held_before : (o p : Option CopyReservation) (k : CopyReservation) → p ≡ Some k → HeldBy R o p → (h : CopyReservation) × (o ≡ Some h) × R h k
  held_before None None k e on = cc
  held_before None (Some x) k e on = absurd on
  held_before (Some h) None k e on = absurd on
  held_before (Some h) (Some x) k e on = (h, refl, subst (R h) (same_row (Some x) x k refl e) on)

  changed_by : (f : CopyReservation → CopyReservation) → ((h : CopyReservation) → R h (f h)) → (c : CopyState) → CopyBy R c (reservation_by f c)
  changed_by f each c = record { request = refl; len = refl; held = by_each f each c.reservation }

module _ (R : CopyReservation → CopyReservation → Type 0) (same : (h : CopyReservation) → R h h) where
  held_itself : (o : Option CopyReservation) → HeldBy R o o
  held_itself None = tt
  held_itself (Some h) = same h

  copy_itself : (c : CopyState) → CopyBy R c c
  copy_itself c = record { request = refl; len = refl; held = held_itself c.reservation }

  -- copies that stay as they are
  pub copies_same : (copies : ByNumber CopyState) → CopiesBy R copies copies
  copies_same copies = record { stays = λ b c is. (c, is, copy_itself c); comes = λ b c is. (c, is, copy_itself c) }

  -- copies of which one changes its reservation
  pub copies_changed : (b : ℕ) (f : CopyReservation → CopyReservation) (copies : ByNumber CopyState) → ((h : CopyReservation) → R h (f h))
      → CopiesBy R copies (adjust copies b (reservation_by f))
  copies_changed b f copies each = record {
    stays = λ q c is. elim (same_or numbers b q) [
      | inl here ↦
          let row = adjusted_row numbers copies b (reservation_by f) c (ap (map.get copies) (sym here) ∙ is) in
          (reservation_by f c, ap (map.get (adjust copies b (reservation_by f))) here ∙ row, changed_by R f each c)
      | inr differ ↦ (c, adjusted-beside numbers copies b (reservation_by f) q differ ∙ is, copy_itself c)
    ];
    comes = λ q d is. elim (adjusted numbers copies b (reservation_by f) q d is) [
      | inl at ↦ (at.1.0, ap (map.get copies) at.0 ∙ at.1.1, subst (CopyBy R at.1.0) (sym at.1.2) (changed_by R f each at.1.0))
      | inr beside ↦ (d, beside.1, copy_itself d)
    ];
  }

module _ (R : CopyReservation → CopyReservation → Type 0) (number : (h k : CopyReservation) → R h k → k.number ≡ h.number)
    (copies new : ByNumber CopyState) (on : CopiesBy R copies new) where
  -- what is kept of a mount is kept where its place in the reservation stays
  pub origin_by : (conf : GroupConf) (reservations : ByNumber Reserved) (moves : ByNumber Moving) (reuses : ByNumber Reusing) (m : ℕ) (vsn : Vsn)
      (o : Origin)
      → ((h k : CopyReservation) → R h k → map.get k.mounts m ≡ map.get h.mounts m)
      → OriginKept conf reservations copies moves reuses m vsn o → OriginKept conf reservations new moves reuses m vsn o
  origin_by conf reservations moves reuses m vsn (origin.New listed format) mounts k = k
  origin_by conf reservations moves reuses m vsn (origin.Piece b index p chunk) mounts k =
      let d = on.stays b.0 k.copy k.is in
      let h = held_after R k.copy.reservation d.0.reservation k.held k.has d.2.held in
      record {
        copy = d.0;
        is = d.1;
        held = h.0;
        has = h.1;
        mount = mounts k.held h.0 h.2 ∙ k.mount;
        reserved = k.reserved;
        there = ap (map.get reservations) (number k.held h.0 h.2) ∙ k.there;
        same = k.same;
        cut = k.cut;
        piece = k.piece;
        volume = k.volume;
      }
  origin_by conf reservations moves reuses m vsn (origin.Chunk b c) mounts k = k
  origin_by conf reservations moves reuses m vsn (origin.Source job b c) mounts k = k
  origin_by conf reservations moves reuses m vsn (origin.Target job b total c version) mounts k = k
  origin_by conf reservations moves reuses m vsn (origin.Reuse next_epoch version reading) mounts k = k

  -- and of a reservation where what was written of its pieces is known
  pub reserved_by : (bitfiles : ByNumber BitfileRow) (volumes : ByName VolumeRow) (tips : ByName ℕ) (images after : ByName Image) (n : ℕ) (r : Reserved)
      → (k : ReservationKept bitfiles volumes tips images copies n r)
      → ((c : CopyState) (held : CopyReservation) → R k.held held → map.get new r.bfid.0 ≡ Some c → c.reservation ≡ Some held
      → EachRow held.written (λ index w. (p : Piece) → piece_at index r.pieces ≡ Some p → WrittenKept after r.chunk p w))
      → ReservationKept bitfiles volumes tips after new n r
  reserved_by bitfiles volumes tips images after n r k written =
      let d = on.stays r.bfid.0 k.copy k.is in
      let h = held_after R k.copy.reservation d.0.reservation k.held k.has d.2.held in
      record {
        copy = d.0;
        is = d.1;
        held = h.0;
        has = h.1;
        number = number k.held h.0 h.2 ∙ k.number;
        len = d.2.len ∙ k.len;
        new = k.new;
        some = k.some;
        joins = k.joins;
        zones = k.zones;
        written = written d.0 h.0 h.2 d.1 h.1;
      }

  -- and of a copy
  pub copies_by : (g : ℕ) (entries : ByNumber Entry) (contents : ByNumber (List ℕ)) (requests : ByNumber OpenRequest)
      (reservations : ByNumber Reserved)
      → EachRow copies (CopyKept g entries contents requests reservations) → EachRow new (CopyKept g entries contents requests reservations)
  copies_by g entries contents requests reservations each = λ b d is.
      let c = on.comes b d is in
      let k = each b c.0 c.1 in
      record {
        of = k.of;
        len = k.len ∙ sym c.2.len;
        put = record { request = k.put.request; is = ap (map.get requests) c.2.request ∙ k.put.is; put = k.put.put; same = k.put.same };
        reservation = λ held has.
            let h = held_before R c.0.reservation d.reservation held has c.2.held in
            let was = k.reservation h.0 h.1 in
            (was.0, ap (map.get reservations) (number h.0 held h.2) ∙ was.1, was.2);
      }
