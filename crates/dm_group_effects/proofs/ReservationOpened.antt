-- A reservation begins: tips rise, and the new zones have places behind them. A side is kept where there is room, the copy has
-- no reservation yet, and nothing is in doubt.
use Rattle.std.proofs.Common.{◌≡◌, ◌⊎◌, ℕ, ◌+◌, ◌<◌, ◌≤◌, Some, None, Option, List, refl, sym, ap, subst, ◌∙◌, arith, inl, inr}
use Rattle.std.specs.FinMap as map
use Rattle.dm_base.specs.declared.conf.GroupConf.{GroupConf}
use Rattle.dm_base.specs.declared.identifier.Bfid.{Bfid}
use Rattle.dm_base.specs.declared.identifier.GroupId.{GroupId}
use Rattle.dm_base.specs.declared.serial.Vsn.{Vsn}
use Rattle.dm_base.specs.declared.volume.Chunk.{Chunk}
use Rattle.dm_base.specs.declared.volume.Piece.{Piece}
use Rattle.dm_rules.specs.Plan.{rooms}
use Rattle.dm_tables.specs.Rows.{EachRow, adjust}
use Rattle.dm_tables.proofs.Adjusted.{adjusted, adjusted-beside, adjusted_row}
use Rattle.dm_tables.proofs.Orders.{numbers}
use Rattle.dm_tables.proofs.Rows.{each-beside, each-empty, get-here, inserted}
use Rattle.dm_durable.specs.declared.daemon.Entry.{Entry}
use Rattle.dm_durable.specs.declared.group.BitfileRow.{BitfileRow}
use Rattle.dm_durable.specs.declared.group.GroupRecord.{GroupRecord}
use Rattle.dm_durable.specs.declared.group.VolumeRow.{VolumeRow}
use Rattle.dm_durable.specs.Tables.{ByName, ByNumber}
use Rattle.dm_durable.specs.Volumes.{Usage, planned_pieces, spaces}
use Rattle.dm_model.specs.declared.plan.Opening.TheVariants as opening
use Rattle.dm_model.specs.declared.state.CopyReservation.{CopyReservation}
use Rattle.dm_model.specs.declared.state.CopyState.{CopyState}
use Rattle.dm_model.specs.declared.state.Group.{Group}
use Rattle.dm_model.specs.declared.state.Image.{Image}
use Rattle.dm_model.specs.declared.state.Moving.{Moving}
use Rattle.dm_model.specs.declared.state.OpenRequest.{OpenRequest}
use Rattle.dm_model.specs.declared.state.Origin.{Origin}
use Rattle.dm_model.specs.declared.state.Origin.TheVariants as origin
use Rattle.dm_model.specs.declared.state.Reserved.{Reserved}
use Rattle.dm_model.specs.declared.state.Reusing.{Reusing}
use Rattle.dm_model.specs.declared.state.Side.{Side}
use Rattle.dm_model.specs.GroupShare.{tips_behind}
use Rattle.dm_model.specs.SideShare.{side_after_opening, with_reservation}
use Rattle.dm_model.specs.Volumes.{usage_of}
use Rattle.dm_invariant.specs.Among.{IsAmong}
use Rattle.dm_invariant.specs.Kept.{SideKept}
use Rattle.dm_invariant.specs.Mounts.{OriginKept}
use Rattle.dm_invariant.specs.OnceLive.{MountOnce, OnceLive}
use Rattle.dm_invariant.specs.Places.{Doubted, HasPlace, HasReserving, Reserving, Live, Owner, PieceCovers, Target}
use Rattle.dm_invariant.specs.Reservations.{CopyKept, ReservationKept, ZoneInHand}
use Rattle.dm_invariant.specs.Volumes.{VolumeKept}
use Rattle.dm_invariant.proofs.LookUps.{beside_free}
use Rattle.dm_invariant.proofs.Options.{same_row}
use Rattle.dm_effects.proofs.CopyEnded.{reserved_apart}
use Rattle.dm_effects.proofs.ReuseOpened.{nothing_in_doubt}
use Rattle.dm_group_effects.proofs.PlacesMore.{BeforeTip, beyond_tip, end_before, owner_before, places_more}
use Rattle.dm_group_effects.proofs.Spaces.{pieces_whole}
use Rattle.dm_group_effects.proofs.TipsMoved.{LaidOut, laid_out}
use Rattle.dm_group_effects.proofs.TipsRisen.{side_tips_risen}

-- the reservation of so many bytes of a bitfile
abbrev pub reserved_for : Group → Bfid → ℕ → Reserved
reserved_for x b len = record { bfid = b; len = len; chunk = x.conf.chunk; pieces = planned_pieces (usage_of x) x.tables.volumes len }

-- there is room for them, the copy of that length has no reservation, the group doesn't have the bitfile, and the number is new
pub record ReservationOpens (s : Side) (b : Bfid) (len n : ℕ) : Type 0 where
  pub number : s.group.next_reservation ≤ n
  pub copy : CopyState
  pub is : map.get s.copies b.0 ≡ Some copy
  pub has : copy.reservation ≡ None
  pub sized : copy.len ≡ len
  pub new : map.get s.group.tables.bitfiles b.0 ≡ None
  pub room : len ≤ rooms (spaces (usage_of s.group) s.group.tables.volumes)
  pub settled : s.group.doubt ≡ None

-- a row that isn't there has a number of no row
pub free_number : {X : Type 0} (o : Option X) (n next : ℕ) → ((x : X) → o ≡ Some x → n < next) → next ≤ n → o ≡ None
free_number None n next below new = refl
free_number (Some x) n next below new = let f = below x refl in absurd (omega (arith, f, new))

-- ---- copies and mounts

-- the copy's reservation as it begins
abbrev new_reservation : ℕ → CopyReservation
new_reservation n = record { number = n; mounts = map.empty; written = map.empty }

abbrev copies_opened : ℕ → ℕ → ByNumber CopyState → ByNumber CopyState
copies_opened n b copies = adjust copies b (with_reservation (Some (new_reservation n)))

module _ (reservations : ByNumber Reserved) (copies : ByNumber CopyState) (n : ℕ) (r : Reserved) (c : CopyState)
    (free : map.get reservations n ≡ None) (is : map.get copies r.bfid.0 ≡ Some c) (none : c.reservation ≡ None) where
  abbrev copies_after : ByNumber CopyState
  copies_after = copies_opened n r.bfid.0 copies

  -- a copy with a reservation is another one, and stays
  other_copy : (q : ℕ) (d : CopyState) (h : CopyReservation) → map.get copies q ≡ Some d → d.reservation ≡ Some h → map.get copies_after q ≡ Some d
  other_copy q d h at has =
      let differ = reserved_apart copies r.bfid.0 q d h
      (λ e there. ap (λ (x : CopyState). x.reservation) (same_row (map.get copies r.bfid.0) e c there is) ∙ none) at has in
      adjusted-beside numbers copies r.bfid.0 (with_reservation (Some (new_reservation n))) q differ ∙ at

  origin_more : (conf : GroupConf) (moves : ByNumber Moving) (reuses : ByNumber Reusing) (m : ℕ) (vsn : Vsn) (o : Origin)
      → OriginKept conf reservations copies moves reuses m vsn o
      → OriginKept conf (map.insert reservations n r) copies_after moves reuses m vsn o
  origin_more conf moves reuses m vsn (origin.New listed format) k = k
  origin_more conf moves reuses m vsn (origin.Piece q index p chunk) k = record {
    copy = k.copy;
    is = other_copy q.0 k.copy k.held k.is k.has;
    held = k.held;
    has = k.has;
    mount = k.mount;
    reserved = k.reserved;
    there = beside_free numbers reservations n k.held.number r k.reserved free k.there;
    same = k.same;
    cut = k.cut;
    piece = k.piece;
    volume = k.volume;
  }
  origin_more conf moves reuses m vsn (origin.Chunk d e) k = k
  origin_more conf moves reuses m vsn (origin.Source job d e) k = k
  origin_more conf moves reuses m vsn (origin.Target job d total e version) k = k
  origin_more conf moves reuses m vsn (origin.Reuse next_epoch version reading) k = k

  reservation_beside : (bitfiles : ByNumber BitfileRow) (volumes : ByName VolumeRow) (tips : ByName ℕ) (images : ByName Image) (q : ℕ) (x : Reserved)
      → ReservationKept bitfiles volumes tips images copies q x → ReservationKept bitfiles volumes tips images copies_after q x
  reservation_beside bitfiles volumes tips images q x k = record {
    copy = k.copy;
    is = other_copy x.bfid.0 k.copy k.held k.is k.has;
    held = k.held;
    has = k.has;
    number = k.number;
    len = k.len;
    new = k.new;
    some = k.some;
    joins = k.joins;
    zones = k.zones;
    written = k.written;
  }

  -- the copy has the new reservation
  copies_kept : (g : ℕ) (entries : ByNumber Entry) (contents : ByNumber (List ℕ)) (requests : ByNumber OpenRequest)
      → EachRow copies (CopyKept g entries contents requests reservations)
      → EachRow copies_after (CopyKept g entries contents requests (map.insert reservations n r))
  copies_kept g entries contents requests each = λ q d at.
      elim (adjusted numbers copies r.bfid.0 (with_reservation (Some (new_reservation n))) q d at) [
        | inl here ↦
            let k = each q here.1.0 (ap (map.get copies) here.0 ∙ here.1.1) in
            let len = ap (λ (e : CopyState). e.len) here.1.2 in
            let request = ap (λ (e : CopyState). e.request) here.1.2 in
            record {
              of = k.of;
              len = k.len ∙ sym len;
              put = record { request = k.put.request; is = ap (map.get requests) request ∙ k.put.is; put = k.put.put; same = k.put.same };
              reservation = λ held has.
                  let mine : new_reservation n ≡ held =
                  same_row d.reservation (new_reservation n) held (ap (λ (e : CopyState). e.reservation) here.1.2) has in
                  let number : n ≡ held.number = ap (λ (h : CopyReservation). h.number) mine in (
                    r,
                    subst (λ i. map.get (map.insert reservations n r) i ≡ Some r) number (get-here numbers reservations n r),
                    sym here.0,
                  );
            }
        | inr beside ↦
            let k = each q d beside.1 in
            record {
              of = k.of;
              len = k.len;
              put = k.put;
              reservation = λ held has.
                  let was = k.reservation held has in
                  (was.0, beside_free numbers reservations n held.number r was.0 free was.1, was.2);
            }
      ]

-- ---- places

-- a piece of the reservation has a place
record HasPiece (n : ℕ) (r : Reserved) (o : Owner) (vsn : List ℕ) (place : ℕ) : Type 0 where
  offset : ℕ
  owner : o ≡ Reserving n offset
  piece : Piece
  among : IsAmong piece r.pieces
  at : piece.offset ≡ offset
  covers : PieceCovers r.chunk piece vsn place

has_piece : (n : ℕ) (r x : Reserved) (q offset : ℕ) (vsn : List ℕ) (place : ℕ) (p : Piece) → q ≡ n → x ≡ r → IsAmong p x.pieces → p.offset ≡ offset
    → PieceCovers x.chunk p vsn place → HasPiece n r (Reserving q offset) vsn place
has_piece n r x q offset vsn place p number same a at covers = record {
  offset = offset;
  owner = ap (λ i. Reserving i offset) number;
  piece = p;
  among = subst (λ (y : Reserved). IsAmong p y.pieces) same a;
  at = at;
  covers = subst (λ (y : Reserved). PieceCovers y.chunk p vsn place) same covers;
}

kept_split : (reservations : ByNumber Reserved) (n : ℕ) (r : Reserved) (q offset : ℕ) (vsn : List ℕ) (place : ℕ)
    → HasReserving (map.insert reservations n r) q offset vsn place
    → HasPiece n r (Reserving q offset) vsn place ⊎ HasReserving reservations q offset vsn place
kept_split reservations n r q offset vsn place h =
    elim (inserted numbers reservations n r q h.reserved h.is) [
      | inl at ↦ inl (has_piece n r h.reserved q offset vsn place h.piece at.0 at.1 h.among h.at h.covers)
      | inr was ↦ inr (record { reserved = h.reserved; is = was.1; piece = h.piece; among = h.among; at = h.at; covers = h.covers })
    ]

split : (bitfiles : ByNumber BitfileRow) (reservations : ByNumber Reserved) (moves : ByNumber Moving) (doubt : Option GroupRecord) (n : ℕ)
    (r : Reserved) (o : Owner) (vsn : List ℕ) (place : ℕ)
    → HasPlace bitfiles (map.insert reservations n r) moves doubt o vsn place
    → HasPiece n r o vsn place ⊎ HasPlace bitfiles reservations moves doubt o vsn place
split bitfiles reservations moves doubt n r (Live b offset) vsn place h = inr h
split bitfiles reservations moves doubt n r (Reserving q offset) vsn place h = kept_split reservations n r q offset vsn place h
split bitfiles reservations moves doubt n r (Target job) vsn place h = inr h
split bitfiles reservations moves doubt n r (Doubted zone) vsn place h = inr h

module _ (u : Usage) (volumes : ByName VolumeRow) (reuses : ByNumber Reusing) (new : ByName ℕ) (n : ℕ) (b : Bfid) (len : ℕ) (ps : List Piece)
    (laid : LaidOut u volumes reuses new ps) where
  abbrev made : Reserved
  made = record { bfid = b; len = len; chunk = u.chunk; pieces = ps }

  piece_beyond : (o : Owner) (vsn : List ℕ) (place : ℕ) → HasPiece n made o vsn place → BeforeTip volumes u.tips vsn place → ⊥
  piece_beyond o vsn place h before =
      beyond_tip u volumes h.piece.vsn.0 h.piece.version h.piece.zone _ place (laid.zones h.piece h.among) h.covers.low
      (subst (λ q. BeforeTip volumes u.tips q place) (sym h.covers.same) before)

  one_piece : (o p : Owner) (vsn : List ℕ) (place : ℕ) → HasPiece n made o vsn place → HasPiece n made p vsn place → o ≡ p
  one_piece o p vsn place h i =
      h.owner
      ∙ ap (λ offset. Reserving n offset)
      (sym h.at ∙ ap (λ (x : Piece). x.offset) (laid.apart h.piece i.piece h.among i.among (h.covers.same ∙ sym i.covers.same)) ∙ i.at)
      ∙ sym i.owner

  -- a chunk that was once live lies before the tips
  once_more : (contents : ByNumber (List ℕ)) (images : ByName Image) (reservations : ByNumber Reserved) (moves : ByNumber Moving) (epoch q : ℕ) (c : Chunk)
      → ((vsn : List ℕ) (v : VolumeRow) (place : ℕ) → map.get volumes vsn ≡ Some v → place < v.end → BeforeTip volumes u.tips vsn place)
      → OnceLive contents volumes images reservations moves epoch q c
      → OnceLive contents volumes images (map.insert reservations n made) moves epoch q c
  once_more contents images reservations moves epoch q c ends k = record {
    volume = k.volume;
    is = k.is;
    still = λ same. let s = k.still same in record {
      behind = s.behind;
      within = s.within;
      sum = s.sum;
      bytes = s.bytes;
      content = s.content;
      known = s.known;
      right = s.right;
      beside_kept = λ i offset place covers has. elim (kept_split reservations n made i offset c.vsn.0 place has) [
        | inl piece ↦
            let within = s.within in
            let high = covers.high in
            piece_beyond (Reserving i offset) c.vsn.0 place piece (ends c.vsn.0 k.volume place k.is (omega (arith, within, high)))
        | inr was ↦ s.beside_kept i offset place covers was
      ];
      beside_targets = s.beside_targets;
    };
  }

  mount_once_more : (contents : ByNumber (List ℕ)) (images : ByName Image) (reservations : ByNumber Reserved) (moves : ByNumber Moving) (epoch : ℕ)
      (o : Origin)
      → ((vsn : List ℕ) (v : VolumeRow) (place : ℕ) → map.get volumes vsn ≡ Some v → place < v.end → BeforeTip volumes u.tips vsn place)
      → MountOnce contents volumes images reservations moves epoch o
      → MountOnce contents volumes images (map.insert reservations n made) moves epoch o
  mount_once_more contents images reservations moves epoch (origin.New listed format) ends k = k
  mount_once_more contents images reservations moves epoch (origin.Piece q index p chunk) ends k = k
  mount_once_more contents images reservations moves epoch (origin.Chunk q c) ends k =
      once_more contents images reservations moves epoch q.0 c ends k
  mount_once_more contents images reservations moves epoch (origin.Source job q c) ends k =
      once_more contents images reservations moves epoch q.0 c ends k
  mount_once_more contents images reservations moves epoch (origin.Target job q total c version) ends k = k
  mount_once_more contents images reservations moves epoch (origin.Reuse next_epoch version reading) ends k = k

  -- the zone of a new piece is in hand
  zone_new : (conf : GroupConf) (now : ℕ) (p : Piece) → EachRow volumes (VolumeKept conf u.tips now) → IsAmong p ps → ZoneInHand volumes new u.chunk p
  zone_new conf now p kept a =
      let z = laid.zones p a in
      let v = kept p.vsn.0 z.volume z.is in
      let label = v.label in
      let end = v.end in
      let from = z.from in
      record {
        volume = z.volume;
        is = z.is;
        usable = z.usable;
        version = z.same;
        behind = omega (arith, label, end, from);
        within = laid.reserved p z.volume a z.is;
      }

-- ---- the side

-- a reservation that begins keeps the side
pub side_reservation_opened : (entries : ByNumber Entry) (contents : ByNumber (List ℕ)) (taken : ByNumber (Unit {0})) (requests : ByNumber OpenRequest)
    (g : ℕ) (committed deleted : ByNumber (Unit {0})) (s : Side) (h : GroupId) (b : Bfid) (len n : ℕ)
    → ReservationOpens s b len n
    → SideKept entries contents taken requests g committed deleted s
    → SideKept entries contents taken requests g committed deleted (side_after_opening (opening.Reservation h n (reserved_for s.group b len)) s)
side_reservation_opened entries contents taken requests g committed deleted s h b len n opens k =
    let t = s.group.tables in
    let conf = s.group.conf in
    let u = usage_of s.group in
    let ps = planned_pieces u t.volumes len in
    let r = reserved_for s.group b len in
    let new = tips_behind conf.chunk ps s.group.tips in
    let laid = laid_out s.group t.time.0 len k.volumes in
    let risen = side_tips_risen entries contents taken requests g committed deleted s new laid.rise opens.settled k in
    let later = opens.number in
    let free = free_number (map.get s.group.reservations n) n s.group.next_reservation (λ x at. k.reservations.numbers n x at) later in
    let after = copies_opened n b.0 s.copies in
    let more = map.insert s.group.reservations n r in
    let ends : (vsn : List ℕ) (v : VolumeRow) (place : ℕ) → map.get t.volumes vsn ≡ Some v → place < v.end → BeforeTip t.volumes u.tips vsn place =
    λ vsn v place is low. end_before conf t.time.0 t.volumes u.tips vsn v place k.volumes.volume is low in
    record {
      number = k.number;
      catalogue = k.catalogue;
      volumes = risen.volumes;
      mounts = record {
        numbers = k.mounts.numbers;
        same = k.mounts.same;
        epoch = k.mounts.epoch;
        apart = k.mounts.apart;
        drives = k.mounts.drives;
        reads = k.mounts.reads;
        origin = λ m x at. origin_more s.group.reservations s.copies n r opens.copy free opens.is opens.has conf s.group.moves s.group.reuses m x.vsn
            x.origin (k.mounts.origin m x at);
      };
      once = λ m x at. mount_once_more u t.volumes s.group.reuses new n b len ps laid contents s.images s.group.reservations s.group.moves
          x.epoch x.origin ends (k.once m x at);
      reservations = record {
        numbers = each-beside numbers (λ q x. q < n + 1) s.group.reservations n r (omega arith)
            (λ q x differ at. let f = k.reservations.numbers q x at in omega (arith, f, later));
        reservation = each-beside numbers (ReservationKept t.bitfiles t.volumes new s.images after) s.group.reservations n r
            (record {
              copy = with_reservation (Some (new_reservation n)) opens.copy;
              is = adjusted_row numbers s.copies b.0 (with_reservation (Some (new_reservation n))) opens.copy opens.is;
              held = new_reservation n;
              has = refl;
              number = refl;
              len = opens.sized;
              new = opens.new;
              some = k.volumes.fits.chunk;
              joins = pieces_whole (spaces u t.volumes) len opens.room;
              zones = λ p among. zone_new u t.volumes s.group.reuses new n b len ps laid conf t.time.0 p k.volumes.volume among;
              written = each-empty _ _;
            })
            (λ q x differ at. reservation_beside s.group.reservations s.copies n r opens.copy free opens.is opens.has t.bitfiles t.volumes new s.images
            q x (risen.reservations.reservation q x at));
        copy = copies_kept s.group.reservations s.copies n r opens.copy free opens.is opens.has g entries contents requests k.reservations.copy;
      };
      moves = risen.moves;
      reuses = risen.reuses;
      places = places_more t.volumes u.tips (HasPiece n r)
          (HasPlace t.bitfiles s.group.reservations s.group.moves s.group.doubt)
          (HasPlace t.bitfiles more s.group.moves s.group.doubt)
          (split t.bitfiles s.group.reservations s.group.moves s.group.doubt n r)
          (one_piece u t.volumes s.group.reuses new n b len ps laid)
          (piece_beyond u t.volumes s.group.reuses new n b len ps laid)
          (owner_before entries contents taken requests g committed deleted s opens.settled k)
          k.places;
      doubt = nothing_in_doubt g entries contents taken deleted
          (side_after_opening (opening.Reservation h n r) s) s.group.doubt opens.settled;
    }
