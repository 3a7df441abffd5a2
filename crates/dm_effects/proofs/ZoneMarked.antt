-- The zone of a piece is written, or its write fails: a side is kept, since no other has a place of the zone.
use Rattle.std.proofs.Common.{◌≡◌, ◌≢◌, ◌⊎◌, ℕ, zero, suc, arith, ◌+◌, ◌-◌, ◌≤◌, ◌<◌, cond, ne_eqb, IsSome, List, [], ◌∷◌, Some, None, Option}
use Rattle.std.proofs.Common.{option_map, length, refl, sym, ap, ◌∙◌, inl, inr, subst}
use Rattle.std.specs.FinMap as map
use Rattle.dm_base.specs.declared.identifier.Bfid.{Bfid}
use Rattle.dm_base.specs.declared.identifier.GroupId.{GroupId}
use Rattle.dm_base.specs.declared.serial.Vsn.{Vsn}
use Rattle.dm_base.specs.declared.volume.Chunk.{Chunk}
use Rattle.dm_base.specs.declared.volume.Piece.{Piece}
use Rattle.dm_rules.specs.Known.{Known, known_with_write, known_without_range, known_bytes}
use Rattle.dm_rules.specs.Plan.{zone_end}
use Rattle.dm_rules.specs.Zone.{weight, zone_length}
use Rattle.dm_rules.proofs.Knowledge.{get-written_in, known_bytes-each}
use Rattle.dm_tables.specs.Rows.{EachRow, adjust}
use Rattle.dm_tables.proofs.Orders.{numbers, paths}
use Rattle.dm_tables.proofs.Rows.{inserted, removed}
use Rattle.dm_tables.proofs.Adjusted.{adjusted, adjusted-here}
use Rattle.dm_durable.specs.declared.daemon.Entry.{Entry}
use Rattle.dm_durable.specs.declared.group.VolumeRow.{VolumeRow}
use Rattle.dm_durable.specs.Tables.{ByNumber, ByName}
use Rattle.dm_model.specs.declared.plan.Mark.TheVariants as mark
use Rattle.dm_model.specs.declared.state.CopyReservation.{CopyReservation}
use Rattle.dm_model.specs.declared.state.CopyState.{CopyState}
use Rattle.dm_model.specs.declared.state.Image.{Image}
use Rattle.dm_model.specs.declared.state.MountState.{MountState}
use Rattle.dm_model.specs.declared.state.Moving.{Moving}
use Rattle.dm_model.specs.declared.state.OpenRequest.{OpenRequest}
use Rattle.dm_model.specs.declared.state.Reserved.{Reserved}
use Rattle.dm_model.specs.declared.state.Side.{Side}
use Rattle.dm_model.specs.declared.state.WrittenZone.{WrittenZone}
use Rattle.dm_model.specs.GroupCalls.{piece_at}
use Rattle.dm_model.specs.SideShare.{known_by, reservation_by, side_after_failed_mark, side_after_mark, with_written, without_written}
use Rattle.dm_invariant.specs.Among.{IsAmong}
use Rattle.dm_invariant.specs.Assemble.{known_of, known_on}
use Rattle.dm_invariant.specs.Kept.{SideKept}
use Rattle.dm_invariant.specs.Moves.{TargetWritten, WrittenRight}
use Rattle.dm_invariant.specs.OnceLive.{StillThere}
use Rattle.dm_invariant.specs.Places.{Doubted, HasReserving, Reserving, Live, Owner, Target}
use Rattle.dm_invariant.specs.Reservations.{PiecesJoin, WrittenKept}
use Rattle.dm_invariant.proofs.DoubtedZones.{doubt_in_hand, zone_covers}
use Rattle.dm_invariant.proofs.Options.{same_row}
use Rattle.dm_landing.proofs.VolumesOnward.{piece_among}
use Rattle.dm_effects.proofs.Copies.{copies_changed}
use Rattle.dm_effects.proofs.ImagesChanged.{AllWritten, HeldLike, KnownBeside, MovesRight, SparesChunks, image_forgotten, image_written, like_itself, mounts_same, range_beside, side_beside}
use Rattle.dm_effects.proofs.SourceMarked.{all_written, reads_right, writes_right}

-- ---- pieces by their offsets

piece_after : (k : ℕ) (q : Piece) (qs : List Piece) → piece_at k qs ≡ piece_at (suc k) (q ∷ qs)
piece_after k q qs =
    let less : k ≡ suc k - 1 = omega arith in
    ap (λ j. piece_at j qs) less ∙ sym (ap (λ b. cond b (Some q) (piece_at (suc k - 1) qs)) (ne_eqb (suc k) 0 (λ e. omega (arith, e))))

behind_first : (from to : ℕ) (ps : List Piece) (p : Piece) → PiecesJoin from ps to → IsAmong p ps → from ≤ p.offset
behind_first from to [] p join among = absurd among
behind_first from to (q ∷ ps) p join among =
    let at : q.offset ≡ from = join.0 in
    elim among [
      | inl same ↦ let e : p.offset ≡ q.offset = ap (λ x. x.offset) same in omega (arith, at, e)
      | inr after ↦ let e = behind_first (from + q.len) to ps p join.2 after in omega (arith, e)
    ]

not_first : (from : ℕ) (x : Piece) (xs : List Piece) (to k : ℕ) (p q : Piece) → PiecesJoin from (x ∷ xs) to → piece_at zero (x ∷ xs) ≡ Some p
    → piece_at (suc k) (x ∷ xs) ≡ Some q → p.offset ≡ q.offset → ⊥
not_first from x xs to k p q join is at same =
    let after = behind_first (from + x.len) to xs q join.2 (piece_among k xs q (piece_after k x xs ∙ at)) in
    let first : p.offset ≡ x.offset = ap (λ (y : Piece). y.offset) (sym (same_row (Some x) x p refl is)) in
    let begins = join.0 in
    let some = join.1 in
    omega (arith, after, first, begins, some, same)

-- no two begin at one offset
pub pieces_apart : (from : ℕ) (ps : List Piece) (to i j : ℕ) (p q : Piece) → PiecesJoin from ps to → piece_at i ps ≡ Some p → piece_at j ps ≡ Some q
    → p.offset ≡ q.offset → i ≡ j
pieces_apart from [] to i j p q join is at same = cc
pieces_apart from (x ∷ xs) to zero zero p q join is at same = refl
pieces_apart from (x ∷ xs) to zero (suc k) p q join is at same = absurd (not_first from x xs to k p q join is at same)
pieces_apart from (x ∷ xs) to (suc k) zero p q join is at same = absurd (not_first from x xs to k q p join at is (sym same))
pieces_apart from (x ∷ xs) to (suc k) (suc l) p q join is at same =
    ap suc (pieces_apart (from + x.len) xs to k l p q join.2 (piece_after k x xs ∙ is) (piece_after l x xs ∙ at) same)

-- ---- what is known where a zone was written

known_whole : (place : ℕ) (zone : List ℕ) (known : Known) → known_bytes (known_with_write place zone known) place (length zone) ≡ Some zone
known_whole place zone known = known_bytes-each (known_with_write place zone known) place zone (λ i below. get-written_in place zone known i below)

known_there : (place : ℕ) (zone : List ℕ) (o : Option Image) → IsSome o
    → known_bytes (known_of (option_map (known_by (known_with_write place zone)) o)) place (length zone) ≡ Some zone
known_there place zone None is = cc
known_there place zone (Some i) is = known_whole place zone i.known

pub known_here : (vsn : List ℕ) (place : ℕ) (zone : List ℕ) (images : ByName Image) → IsSome (map.get images vsn)
    → known_bytes (known_on (adjust images vsn (known_by (known_with_write place zone))) vsn) place (length zone) ≡ Some zone
known_here vsn place zone images is =
    ap (λ o. known_bytes (known_of o) place (length zone)) (adjusted-here paths images vsn (known_by (known_with_write place zone)))
    ∙ known_there place zone (map.get images vsn) is

written_piece : (images : ByName Image) (vsn : List ℕ) (place chunk : ℕ) (zone : List ℕ) (p : Piece) (w : WrittenZone) → p.vsn.0 ≡ vsn
    → p.zone ≡ place → w.zone ≡ zone → length zone ≡ zone_length p.version chunk p.len
    → known_bytes (known_on images vsn) place (length zone) ≡ Some zone → WrittenKept images chunk p w
written_piece images vsn place chunk zone p w volume stands same len known = record {
  len = ap length same ∙ len;
  known =
      ap (λ v. known_bytes (known_on images v) p.zone (length w.zone)) volume ∙ ap (λ q. known_bytes (known_on images vsn) q (length w.zone)) stands
      ∙ ap (λ z. known_bytes (known_on images vsn) place (length z)) same ∙ known ∙ ap (λ z. Some z) (sym same);
}

-- ---- who has places of the zone

-- the zone is that of a piece of the bitfile's reservation, on its volume
pub record ZoneFits (s : Side) (vsn : List ℕ) (place : ℕ) (zone : List ℕ) (b index : ℕ) : Type 0 where
  pub copy : CopyState
  pub is : map.get s.copies b ≡ Some copy
  pub held : CopyReservation
  pub has : copy.reservation ≡ Some held
  pub reserved : Reserved
  pub there : map.get s.group.reservations held.number ≡ Some reserved
  pub same : reserved.bfid.0 ≡ b
  pub piece : Piece
  pub at : piece_at index reserved.pieces ≡ Some piece
  pub volume : piece.vsn.0 ≡ vsn
  pub stands : piece.zone ≡ place
  pub len : length zone ≡ zone_length piece.version reserved.chunk piece.len
  pub image : IsSome (map.get s.images vsn)

-- the number and the offset of an owner that is a zone of a reservation
abbrev number_of : Owner → ℕ
number_of (Live b offset) = 0
number_of (Reserving n offset) = n
number_of (Target job) = 0
number_of (Doubted zone) = 0

abbrev offset_of : Owner → ℕ
offset_of (Live b offset) = offset
offset_of (Reserving n offset) = offset
offset_of (Target job) = 0
offset_of (Doubted zone) = 0

piece_has : (reservations : ByNumber Reserved) (n : ℕ) (r : Reserved) (i : ℕ) (p : Piece) (vsn : List ℕ) (long q : ℕ)
    → map.get reservations n ≡ Some r → piece_at i r.pieces ≡ Some p → p.vsn.0 ≡ vsn
    → long ≡ zone_length p.version r.chunk p.len → p.zone ≤ q → q < p.zone + long → HasReserving reservations n p.offset vsn q
piece_has reservations n r i p vsn long q is at same len low high = record {
  reserved = r;
  is = is;
  piece = p;
  among = piece_among i r.pieces p at;
  at = refl;
  covers = record { same = same; low = low; high = subst (λ l. q < p.zone + l) len high };
}

module _ (s : Side) (vsn : List ℕ) (place : ℕ) (zone : List ℕ) (b index : ℕ) (fits : ZoneFits s vsn place zone b index) where
  zone_has : (q : ℕ) → place ≤ q → q < place + length zone → HasReserving s.group.reservations fits.held.number fits.piece.offset vsn q
  zone_has q low high =
      piece_has s.group.reservations fits.held.number fits.reserved index fits.piece vsn (length zone) q fits.there fits.at fits.volume fits.len
      (subst (λ p. p ≤ q) (sym fits.stands) low)
      (subst (λ p. q < p + length zone) (sym fits.stands) high)

  module _ (entries : ByNumber Entry) (contents : ByNumber (List ℕ)) (taken : ByNumber (Unit {0})) (requests : ByNumber OpenRequest)
      (g : ℕ) (committed deleted : ByNumber (Unit {0})) (kept : SideKept entries contents taken requests g committed deleted s) where
    zone_spared : SparesChunks contents s vsn place (length zone)
    zone_spared = record {
      live = λ c row is d among q covers low high.
          let e = kept.places (Live c d.offset) (Reserving fits.held.number fits.piece.offset) vsn q
          (record { row = row; is = is; chunk = d; among = among; at = refl; covers = covers }) (zone_has q low high) in cc;
      once = λ v c d there q covers low high. there.beside_kept fits.held.number fits.piece.offset q
          (record { same = refl; low = covers.low; high = covers.high })
          (subst (λ u. HasReserving s.group.reservations fits.held.number fits.piece.offset u q) (sym covers.same) (zone_has q low high));
      doubted = λ d is q covers low high.
          let hand = doubt_in_hand g entries contents taken deleted s s.group.doubt kept.doubt d is in
          let covered = zone_covers s.group.tables.volumes s.group.tips d vsn q hand covers in
          let e = kept.places (Doubted d.zone) (Reserving fits.held.number fits.piece.offset) vsn q
          (record { chunk = d; among = is; at = refl; covers = covered }) (zone_has q low high) in cc;
    }

    -- the reservation of the bitfile is the one that has the piece
    own_number : (n : ℕ) (r : Reserved) → map.get s.group.reservations n ≡ Some r → r.bfid.0 ≡ b → fits.held.number ≡ n
    own_number n r is same =
        let mine = kept.reservations.reservation n r is in
        let copy = same_row (map.get s.copies b) fits.copy mine.copy fits.is (ap (map.get s.copies) (sym same) ∙ mine.is) in
        let held = same_row mine.copy.reservation fits.held mine.held (ap (λ (c : CopyState). c.reservation) (sym copy) ∙ fits.has) mine.has in
        ap (λ (h : CopyReservation). h.number) held ∙ mine.number

    own_reserved : (n : ℕ) (r : Reserved) → map.get s.group.reservations n ≡ Some r → fits.held.number ≡ n → fits.reserved ≡ r
    own_reserved n r is same =
        same_row (map.get s.group.reservations n) fits.reserved r (ap (map.get s.group.reservations) (sym same) ∙ fits.there) is

    module _ (images : ByName Image) (beside : KnownBeside vsn place (length zone) s.images images) where
      was_written : (n : ℕ) (r : Reserved) (c : CopyState) (held : CopyReservation) (i : ℕ) (w : WrittenZone) (p : Piece)
          → map.get s.group.reservations n ≡ Some r → map.get s.copies r.bfid.0 ≡ Some c → c.reservation ≡ Some held
          → map.get held.written i ≡ Some w → piece_at i r.pieces ≡ Some p → (n ≡ fits.held.number → p.offset ≡ fits.piece.offset → ⊥)
          → WrittenKept images r.chunk p w
      was_written n r c held i w p is there has put at other =
          let was = all_written entries contents taken requests g committed deleted s kept n r c held is there has i w put p at in
          record {
            len = was.len;
            known = range_beside vsn place (length zone) s.images images p.vsn.0 p.zone (length w.zone) beside (λ q same from below low high.
                let one = kept.places (Reserving n p.offset) (Reserving fits.held.number fits.piece.offset) vsn q
                (piece_has s.group.reservations n r i p vsn (length w.zone) q is at same was.len from below) (zone_has q low high) in
                other (ap number_of one) (ap offset_of one)) ∙ was.known;
          }

      -- a zone that another piece wrote, or the one that is written now
      abbrev NewOrOld : ByNumber WrittenZone → ℕ → WrittenZone → Type 0
      NewOrOld old i w = ((i ≢ index) × (map.get old i ≡ Some w)) ⊎
          ((i ≡ index) × (w.zone ≡ zone) × (known_bytes (known_on images vsn) place (length zone) ≡ Some zone))

      own_written : (n : ℕ) (r : Reserved) (i : ℕ) (w : WrittenZone) (p : Piece) → map.get s.group.reservations n ≡ Some r → r.bfid.0 ≡ b
          → NewOrOld fits.held.written i w
          → piece_at i r.pieces ≡ Some p → WrittenKept images r.chunk p w
      own_written n r i w p is same put at =
          let reserved = own_reserved n r is (own_number n r is same) in
          let mine : piece_at index r.pieces ≡ Some fits.piece = ap (λ (x : Reserved). piece_at index x.pieces) (sym reserved) ∙ fits.at in
          elim put [
            | inl old ↦ was_written n r fits.copy fits.held i w p is (ap (map.get s.copies) same ∙ fits.is) fits.has old.1 at
                (λ one offset. old.0 (pieces_apart 0 r.pieces r.len i index p fits.piece (kept.reservations.reservation n r is).joins at mine offset))
            | inr new ↦
                let piece = same_row (piece_at index r.pieces) fits.piece p mine (ap (λ j. piece_at j r.pieces) (sym new.0) ∙ at) in
                subst (λ (x : Piece). WrittenKept images r.chunk x w) piece
                (written_piece images vsn place r.chunk zone fits.piece w fits.volume fits.stands new.1
                (fits.len ∙ ap (λ (x : Reserved). zone_length fits.piece.version x.chunk fits.piece.len) reserved) new.2)
          ]

      -- what was written of a chunk that is moved is no part of the zone
      target_beside : (job : ℕ) (x : Moving) (o : Option (List ℕ)) → map.get s.group.moves job ≡ Some x
          → WrittenRight s.images x.version x.to o → WrittenRight images x.version x.to o
      target_beside job x None is k = k
      target_beside job x (Some z) is k = record {
        len = k.len;
        known = range_beside vsn place (length zone) s.images images x.to.vsn.0 x.to.zone (length z) beside (λ q same from below low high.
            let e = kept.places (Target job) (Reserving fits.held.number fits.piece.offset) vsn q
            (record { moving = x; is = is; covers = record { same = same; low = from; high = subst (λ l. q < x.to.zone + l) k.len below } })
            (zone_has q low high) in cc) ∙ k.known;
      }

      module _ (f : CopyReservation → CopyReservation)
          (puts : (h : CopyReservation) (i : ℕ) (w : WrittenZone) → map.get (f h).written i ≡ Some w → NewOrOld h.written i w) where
        after_written : AllWritten s.group.reservations images (adjust s.copies b (reservation_by f))
        after_written n r c held is there has = λ i w put p at.
            elim (adjusted numbers s.copies b (reservation_by f) r.bfid.0 c there) [
              | inl own ↦
                  let copy = same_row (map.get s.copies b) own.1.0 fits.copy own.1.1 fits.is in
                  let has_own : option_map f fits.copy.reservation ≡ Some held = ap (λ (x : CopyState). option_map f x.reservation) (sym copy)
                  ∙ ap (λ (x : CopyState). x.reservation) (sym own.1.2) ∙ has in
                  let same = same_row (option_map f fits.copy.reservation) (f fits.held) held (ap (option_map f) fits.has) has_own in
                  own_written n r i w p is own.0 (puts fits.held i w (ap (λ (h : CopyReservation). map.get h.written i) same ∙ put)) at
              | inr other ↦ was_written n r c held i w p is other.1 has put at
                  (λ one offset. other.0 (ap (λ (x : Reserved). x.bfid.0) (sym (own_reserved n r is (sym one))) ∙ fits.same))
            ]

        side_marked : ((h : CopyReservation) → HeldLike h (f h))
            → SideKept entries contents taken requests g committed deleted (record s { images = images; copies = adjust s.copies b (reservation_by f) })
        side_marked like =
            side_beside entries contents taken requests g committed deleted vsn place (length zone) s images (adjust s.copies b (reservation_by f))
            s.mounts beside (copies_changed HeldLike like_itself b f s.copies like) (mounts_same s.mounts) zone_spared after_written
            (record {
              read = reads_right entries contents taken requests g committed deleted s kept;
              written = λ job x y is at. target_beside job x y.written is
                  (writes_right entries contents taken requests g committed deleted s kept job x y is at);
            })
            kept

-- the zone of a piece is written: the side is kept
pub side_zone_written : (entries : ByNumber Entry) (contents : ByNumber (List ℕ)) (taken : ByNumber (Unit {0})) (requests : ByNumber OpenRequest)
    (g : ℕ) (committed deleted : ByNumber (Unit {0})) (s : Side) (h : GroupId) (vsn : Vsn) (place : ℕ) (zone : List ℕ) (b : Bfid) (index epoch : ℕ)
    → ZoneFits s vsn.0 place zone b.0 index
    → SideKept entries contents taken requests g committed deleted s
    → SideKept entries contents taken requests g committed deleted (side_after_mark (mark.Zone h vsn place zone b index epoch) s)
side_zone_written entries contents taken requests g committed deleted s h vsn place zone b index epoch fits kept =
    side_marked s vsn.0 place zone b.0 index fits entries contents taken requests g committed deleted kept
    (adjust s.images vsn.0 (known_by (known_with_write place zone))) (image_written vsn.0 place zone s.images) (with_written index epoch zone)
    (λ h i w put. elim (inserted numbers h.written index (record { epoch = epoch; zone = zone }) i w put) [
      | inl here ↦ inr (here.0, ap (λ (x : WrittenZone). x.zone) here.1, known_here vsn.0 place zone s.images fits.image)
      | inr old ↦ inl old
    ])
    (λ h. record { number = refl; mounts = refl })

-- also where the write of the zone fails
pub side_zone_failed : (entries : ByNumber Entry) (contents : ByNumber (List ℕ)) (taken : ByNumber (Unit {0})) (requests : ByNumber OpenRequest)
    (g : ℕ) (committed deleted : ByNumber (Unit {0})) (s : Side) (h : GroupId) (vsn : Vsn) (place : ℕ) (zone : List ℕ) (b : Bfid) (index epoch : ℕ)
    → ZoneFits s vsn.0 place zone b.0 index
    → SideKept entries contents taken requests g committed deleted s
    → SideKept entries contents taken requests g committed deleted (side_after_failed_mark (mark.Zone h vsn place zone b index epoch) s)
side_zone_failed entries contents taken requests g committed deleted s h vsn place zone b index epoch fits kept =
    side_marked s vsn.0 place zone b.0 index fits entries contents taken requests g committed deleted kept
    (adjust s.images vsn.0 (known_by (known_without_range place (length zone)))) (image_forgotten vsn.0 place (length zone) s.images) (without_written index)
    (λ h i w put. inl (removed numbers h.written index i w put))
    (λ h. record { number = refl; mounts = refl })
