-- A reservation ends: a side is kept where no piece of it is mounted.
use Rattle.std.proofs.Common.{◌≡◌, ◌≢◌, ℕ, Some, None, Option, List, sym, ap, ◌∙◌, inl, inr, refl}
use Rattle.std.specs.FinMap as map
use Rattle.dm_base.specs.declared.conf.GroupConf.{GroupConf}
use Rattle.dm_base.specs.declared.identifier.Bfid.{Bfid}
use Rattle.dm_base.specs.declared.identifier.GroupId.{GroupId}
use Rattle.dm_base.specs.declared.serial.Vsn.{Vsn}
use Rattle.dm_base.specs.declared.volume.Chunk.{Chunk}
use Rattle.dm_tables.specs.Rows.{EachRow, adjust}
use Rattle.dm_tables.proofs.Orders.{numbers}
use Rattle.dm_tables.proofs.Rows.{removed, removed-beside}
use Rattle.dm_tables.proofs.Adjusted.{adjusted, adjusted-beside}
use Rattle.dm_durable.specs.declared.daemon.Entry.{Entry}
use Rattle.dm_durable.specs.declared.group.BitfileRow.{BitfileRow}
use Rattle.dm_durable.specs.declared.group.GroupRecord.{GroupRecord}
use Rattle.dm_durable.specs.declared.group.VolumeRow.{VolumeRow}
use Rattle.dm_durable.specs.Tables.{ByNumber, ByName}
use Rattle.dm_model.specs.declared.plan.Ending.TheVariants as ending
use Rattle.dm_model.specs.declared.state.CopyReservation.{CopyReservation}
use Rattle.dm_model.specs.declared.state.CopyState.{CopyState}
use Rattle.dm_model.specs.declared.state.Image.{Image}
use Rattle.dm_model.specs.declared.state.Moving.{Moving}
use Rattle.dm_model.specs.declared.state.OpenRequest.{OpenRequest}
use Rattle.dm_model.specs.declared.state.Origin.{Origin}
use Rattle.dm_model.specs.declared.state.Origin.TheVariants as origin
use Rattle.dm_model.specs.declared.state.Reserved.{Reserved}
use Rattle.dm_model.specs.declared.state.Reusing.{Reusing}
use Rattle.dm_model.specs.declared.state.Side.{Side}
use Rattle.dm_model.specs.SideShare.{side_after_ending, with_reservation}
use Rattle.dm_invariant.specs.Kept.{SideKept}
use Rattle.dm_invariant.specs.Mounts.{OriginKept}
use Rattle.dm_invariant.specs.OnceLive.{MountOnce, OnceLive}
use Rattle.dm_invariant.specs.Places.{HasPlace, HasReserving, Live, Reserving, Target, Doubted, Owner}
use Rattle.dm_invariant.specs.Reservations.{ReservationKept, CopyKept}
use Rattle.dm_invariant.proofs.Options.{same_row, none_some}
use Rattle.dm_invariant.proofs.LookUps.{none_in_empty}
use Rattle.dm_effects.proofs.Uses.{FewerUses, doubt_fewer, open_of}

-- the reservation of the bitfile ends, and no piece of it is mounted
pub record ReservationEnds (reservations : ByNumber Reserved) (copies : ByNumber CopyState) (n b : ℕ) : Type 0 where
  pub reserved : Reserved
  pub is : map.get reservations n ≡ Some reserved
  pub same : reserved.bfid.0 ≡ b
  pub free : (c : CopyState) (held : CopyReservation) → map.get copies b ≡ Some c → c.reservation ≡ Some held → map.len held.mounts ≡ 0

module _ (reservations : ByNumber Reserved) (copies : ByNumber CopyState) (n b : ℕ) (ends : ReservationEnds reservations copies n b) where
  abbrev left : ByNumber Reserved
  left = map.remove reservations n

  abbrev unreserved : ByNumber CopyState
  unreserved = adjust copies b (with_reservation None)

  -- a reservation of another bitfile has another number
  number_differs : (k : ℕ) (r : Reserved) → map.get reservations k ≡ Some r → r.bfid.0 ≢ b → k ≢ n
  number_differs k r is differ same =
      differ (ap (λ (x : Reserved). x.bfid.0)
      (same_row (map.get reservations n) r ends.reserved (ap (map.get reservations) (sym same) ∙ is) ends.is) ∙ ends.same)

  -- a mount of a piece is of another bitfile
  origin_left : (conf : GroupConf) (moves : ByNumber Moving) (reuses : ByNumber Reusing) (m : ℕ) (vsn : Vsn) (o : Origin)
      → OriginKept conf reservations copies moves reuses m vsn o → OriginKept conf left unreserved moves reuses m vsn o
  origin_left conf moves reuses m vsn (origin.New listed format) k = k
  origin_left conf moves reuses m vsn (origin.Piece q index p chunk) k =
      let differ : q.0 ≢ b = λ e. none_in_empty _ k.held.mounts m index
      (map.empty_of_len k.held.mounts (ends.free k.copy k.held (ap (map.get copies) (sym e) ∙ k.is) k.has)) k.mount in
      let other = number_differs k.held.number k.reserved k.there (λ e. differ (sym k.same ∙ e)) in
      record {
        copy = k.copy;
        is = adjusted-beside numbers copies b (with_reservation None) q.0 differ ∙ k.is;
        held = k.held;
        has = k.has;
        mount = k.mount;
        reserved = k.reserved;
        there = removed-beside numbers reservations n k.held.number other ∙ k.there;
        same = k.same;
        cut = k.cut;
        piece = k.piece;
        volume = k.volume;
      }
  origin_left conf moves reuses m vsn (origin.Chunk c d) k = k
  origin_left conf moves reuses m vsn (origin.Source job c d) k = k
  origin_left conf moves reuses m vsn (origin.Target job c total d version) k = k
  origin_left conf moves reuses m vsn (origin.Reuse next_epoch version reading) k = k

  -- the others have their copies
  reservations_left : (bitfiles : ByNumber BitfileRow) (volumes : ByName VolumeRow) (tips : ByName ℕ) (images : ByName Image)
      → EachRow reservations (ReservationKept bitfiles volumes tips images copies)
      → EachRow left (ReservationKept bitfiles volumes tips images unreserved)
  reservations_left bitfiles volumes tips images each = λ q r is.
      let was = removed numbers reservations n q r is in
      let k = each q r was.1 in
      let mine = each n ends.reserved ends.is in
      let differ : r.bfid.0 ≢ b = λ e.
      let copy = same_row (map.get copies b) k.copy mine.copy (ap (map.get copies) (sym e) ∙ k.is) (ap (map.get copies) (sym ends.same) ∙ mine.is) in
      let held = same_row mine.copy.reservation k.held mine.held (ap (λ (c : CopyState). c.reservation) (sym copy) ∙ k.has) mine.has in
      was.0 (sym k.number ∙ ap (λ (h : CopyReservation). h.number) held ∙ mine.number) in
      record {
        copy = k.copy;
        is = adjusted-beside numbers copies b (with_reservation None) r.bfid.0 differ ∙ k.is;
        held = k.held;
        has = k.has;
        number = k.number;
        len = k.len;
        new = k.new;
        some = k.some;
        joins = k.joins;
        zones = k.zones;
        written = k.written;
      }

  -- the copy has none any more
  copies_left : (g : ℕ) (entries : ByNumber Entry) (contents : ByNumber (List ℕ)) (requests : ByNumber OpenRequest)
      → EachRow copies (CopyKept g entries contents requests reservations)
      → EachRow unreserved (CopyKept g entries contents requests left)
  copies_left g entries contents requests each = λ q c is.
      elim (adjusted numbers copies b (with_reservation None) q c is) [
        | inl at ↦
            let k = each q at.1.0 (ap (map.get copies) at.0 ∙ at.1.1) in
            let len = ap (λ (d : CopyState). d.len) at.1.2 in
            let request = ap (λ (d : CopyState). d.request) at.1.2 in
            record {
              of = k.of;
              len = k.len ∙ sym len;
              put = record {
                request = k.put.request;
                is = ap (map.get requests) request ∙ k.put.is;
                put = k.put.put;
                same = k.put.same;
              };
              reservation = λ held has. absurd (none_some c.reservation held (ap (λ (d : CopyState). d.reservation) at.1.2) has);
            }
        | inr beside ↦
            let k = each q c beside.1 in
            record {
              of = k.of;
              len = k.len;
              put = k.put;
              reservation = λ held has.
                  let was = k.reservation held has in
                  let other = number_differs held.number was.0 was.1 (λ e. beside.0 (sym was.2 ∙ e)) in
                  (was.0, removed-beside numbers reservations n held.number other ∙ was.1, was.2);
            }
      ]

-- who has a place of a reservation that is left had it before
kept_left : (reservations : ByNumber Reserved) (n k offset : ℕ) (vsn : List ℕ) (place : ℕ) → HasReserving (map.remove reservations n) k offset vsn place
    → HasReserving reservations k offset vsn place
kept_left reservations n k offset vsn place has = record {
  reserved = has.reserved;
  is = (removed numbers reservations n k has.reserved has.is).1;
  piece = has.piece;
  among = has.among;
  at = has.at;
  covers = has.covers;
}

has_left : (bitfiles : ByNumber BitfileRow) (reservations : ByNumber Reserved) (moves : ByNumber Moving) (doubt : Option GroupRecord) (n : ℕ)
    (o : Owner) (vsn : List ℕ) (place : ℕ)
    → HasPlace bitfiles (map.remove reservations n) moves doubt o vsn place → HasPlace bitfiles reservations moves doubt o vsn place
has_left bitfiles reservations moves doubt n (Live b offset) vsn place has = has
has_left bitfiles reservations moves doubt n (Reserving k offset) vsn place has = kept_left reservations n k offset vsn place has
has_left bitfiles reservations moves doubt n (Target job) vsn place has = has
has_left bitfiles reservations moves doubt n (Doubted zone) vsn place has = has

once_left : (contents : ByNumber (List ℕ)) (volumes : ByName VolumeRow) (images : ByName Image) (reservations : ByNumber Reserved)
    (moves : ByNumber Moving) (n epoch b : ℕ) (c : Chunk)
    → OnceLive contents volumes images reservations moves epoch b c → OnceLive contents volumes images (map.remove reservations n) moves epoch b c
once_left contents volumes images reservations moves n epoch b c k = record {
  volume = k.volume;
  is = k.is;
  still = λ same. let s = k.still same in record {
    behind = s.behind;
    within = s.within;
    sum = s.sum;
    bytes = s.bytes;
    content = s.content;
    known = s.known;
    right = s.right;
    beside_kept = λ q offset place covers has. s.beside_kept q offset place covers (kept_left reservations n q offset c.vsn.0 place has);
    beside_targets = s.beside_targets;
  };
}

mount_once_left : (contents : ByNumber (List ℕ)) (volumes : ByName VolumeRow) (images : ByName Image) (reservations : ByNumber Reserved)
    (moves : ByNumber Moving) (n epoch : ℕ) (o : Origin)
    → MountOnce contents volumes images reservations moves epoch o → MountOnce contents volumes images (map.remove reservations n) moves epoch o
mount_once_left contents volumes images reservations moves n epoch (origin.New listed format) k = k
mount_once_left contents volumes images reservations moves n epoch (origin.Piece b index p chunk) k = k
mount_once_left contents volumes images reservations moves n epoch (origin.Chunk b c) k =
    once_left contents volumes images reservations moves n epoch b.0 c k
mount_once_left contents volumes images reservations moves n epoch (origin.Source job b c) k =
    once_left contents volumes images reservations moves n epoch b.0 c k
mount_once_left contents volumes images reservations moves n epoch (origin.Target job b total c version) k = k
mount_once_left contents volumes images reservations moves n epoch (origin.Reuse next_epoch version reading) k = k

-- a reservation that ends keeps the side
pub side_reservation_ended : (entries : ByNumber Entry) (contents : ByNumber (List ℕ)) (taken : ByNumber (Unit {0})) (requests : ByNumber OpenRequest)
    (g : ℕ) (committed deleted : ByNumber (Unit {0})) (s : Side) (h : GroupId) (n : ℕ) (b : Bfid)
    → ReservationEnds s.group.reservations s.copies n b.0
    → SideKept entries contents taken requests g committed deleted s
    → SideKept entries contents taken requests g committed deleted (side_after_ending (ending.Reservation h n b) s)
side_reservation_ended entries contents taken requests g committed deleted s h n b ends k =
    let t = s.group.tables in
    let fewer : FewerUses s.mounts s.mounts s.group.reservations (map.remove s.group.reservations n) = record {
      mounted = λ m x is. (m, x, is, refl);
      reserved = λ q r is. (removed numbers s.group.reservations n q r is).1;
    } in
    record {
      number = k.number;
      catalogue = k.catalogue;
      volumes = k.volumes;
      mounts = record {
        numbers = k.mounts.numbers;
        same = k.mounts.same;
        epoch = k.mounts.epoch;
        apart = k.mounts.apart;
        drives = k.mounts.drives;
        reads = k.mounts.reads;
        origin = λ m x is. origin_left s.group.reservations s.copies n b.0 ends s.group.conf s.group.moves s.group.reuses m x.vsn x.origin
            (k.mounts.origin m x is);
      };
      once = λ m x is. mount_once_left contents t.volumes s.images s.group.reservations s.group.moves n x.epoch x.origin (k.once m x is);
      reservations = record {
        numbers = λ q r is. k.reservations.numbers q r (removed numbers s.group.reservations n q r is).1;
        reservation = reservations_left s.group.reservations s.copies n b.0 ends t.bitfiles t.volumes s.group.tips s.images
            k.reservations.reservation;
        copy = copies_left s.group.reservations s.copies n b.0 ends g entries contents requests k.reservations.copy;
      };
      moves = k.moves;
      reuses = k.reuses;
      places = λ o p vsn place one two. k.places o p vsn place
          (has_left t.bitfiles s.group.reservations s.group.moves s.group.doubt n o vsn place one)
          (has_left t.bitfiles s.group.reservations s.group.moves s.group.doubt n p vsn place two);
      doubt = doubt_fewer g entries contents taken deleted s
          (record (open_of s) {
            reservations = map.remove s.group.reservations n;
            copies = adjust s.copies b.0 (with_reservation None);
          })
          fewer s.group.doubt k.doubt;
    }
