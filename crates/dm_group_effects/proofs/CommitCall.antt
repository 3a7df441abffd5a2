-- A commit keeps the joint state, where every piece of its reservation was written with its zone and the sums are right.
use Rattle.std.proofs.Common.{◌≡◌, ◌⊎◌, ℕ, suc, ◌+◌, ◌-◌, ◌≤◌, ◌<◌, true, cond, Option, Some, None, is_some, List, [], ◌∷◌, length, take, drop, refl, sym, ap, subst}
use Rattle.std.proofs.Common.{◌∙◌, inl, inr, arith}
use Rattle.std.proofs.lemmas.Bool.{ne_eqb, and_parts}
use Rattle.std.proofs.lemmas.Bool.Decides.{nat_tests}
use Rattle.std.specs.List.{flat_map}
use Rattle.std.specs.Prelude as prelude
use Rattle.std.specs.FinMap as map
use Rattle.dm_base.specs.declared.identifier.GroupId.{GroupId}
use Rattle.dm_base.specs.declared.identifier.Secs.{Secs}
use Rattle.dm_base.specs.declared.volume.Chunk.{Chunk}
use Rattle.dm_base.specs.declared.volume.Piece.{Piece}
use Rattle.dm_rules.specs.Known.{known_bytes}
use Rattle.dm_rules.specs.Plan.{chunks_of, zone_end}
use Rattle.dm_rules.specs.Version.{chunk_header, has_sum}
use Rattle.dm_rules.specs.Zone.{zone_header, zone_length}
use Rattle.dm_tables.specs.Rows.{EachRow}
use Rattle.dm_tables.proofs.Orders.{numbers}
use Rattle.dm_tables.proofs.Rows.{one_row, removed}
use Rattle.dm_durable.specs.Tables.{ByNumber, ByName}
use Rattle.dm_durable.specs.GroupConditions.{LiesOn, MayCommit}
use Rattle.dm_durable.specs.declared.daemon.Entry.{Entry}
use Rattle.dm_durable.specs.declared.group.GroupRecord.{GroupRecord}
use Rattle.dm_durable.specs.declared.group.GroupStep.TheVariants as step
use Rattle.dm_durable.specs.Volumes.{tip_in}
use Rattle.dm_model.specs.declared.plan.Ending.TheVariants as ending
use Rattle.dm_model.specs.declared.state.GroupHistory.{GroupHistory}
use Rattle.dm_model.specs.declared.state.Image.{Image}
use Rattle.dm_model.specs.declared.state.Joint.{Joint}
use Rattle.dm_model.specs.declared.state.OpenRequest.{OpenRequest}
use Rattle.dm_model.specs.declared.state.Reserved.{Reserved}
use Rattle.dm_model.specs.declared.state.Side.{Side}
use Rattle.dm_model.specs.declared.state.WrittenZone.{WrittenZone}
use Rattle.dm_model.specs.Effects.{after_ending}
use Rattle.dm_model.specs.GroupCalls.{all_written, are_sums_of, are_written, commit, commit_needs, group_time, is_part, is_zone_of, piece_at, piece_sums, piece_zone, reservation_in, summed_chunks}
use Rattle.dm_model.specs.SideShare.{side_after_ending}
use Rattle.dm_invariant.specs.Among.{IsAmong}
use Rattle.dm_invariant.specs.Assemble.{ChunkKnown, SumRight, known_on}
use Rattle.dm_invariant.specs.Doubts.{ChunkInHand, CommitNeeds}
use Rattle.dm_invariant.specs.Kept.{InvariantHolds, SideKept, committed_in, deleted_in}
use Rattle.dm_invariant.specs.Places.{ChunkCovers, Doubted, HasPlace, HasReserving, Reserving as KeptPlace, Live, Owner, PlacesKept, Target, ZoneCovers}
use Rattle.dm_invariant.specs.Requests.{RequestEntry}
use Rattle.dm_invariant.specs.Reservations.{CopyKept, PiecesJoin, ReservationKept, WrittenKept, ZoneInHand}
use Rattle.dm_invariant.proofs.Options.{same_row}
use Rattle.dm_invariant.proofs.Texts.{texts_equal}
use Rattle.dm_landing.proofs.VolumeChunkLists.{each_lies}
use Rattle.dm_effects.proofs.ReservationEnded.{side_reservation_ended}
use Rattle.dm_group_effects.proofs.GroupPlans.{CallKept, never_kept, step_kept}
use Rattle.dm_group_effects.proofs.MountCalls.{reservation_ends}
use Rattle.dm_group_effects.proofs.PartsKept.{Pays}
use Rattle.dm_group_effects.proofs.SideChanges.{KeptAs}
use Rattle.dm_group_effects.proofs.SummedChunks.{same_sums_are, sum_right, sum_there, summed_are, summed_join, summed_of, with_sum}
use Rattle.dm_group_effects.proofs.ZoneBytes.{chunk_known}
use Rattle.dm_group_effects.proofs.ZoneChunks.{ChunkInside, chunk_inside, chunks_apart}

-- ---- owners

-- the number and the offset of an owner that is a zone of a reservation
abbrev number_of : Owner → ℕ
number_of (Live b offset) = 0
number_of (KeptPlace n offset) = n
number_of (Target job) = 0
number_of (Doubted zone) = 0

abbrev offset_of : Owner → ℕ
offset_of (Live b offset) = offset
offset_of (KeptPlace n offset) = offset
offset_of (Target job) = 0
offset_of (Doubted zone) = 0

-- ---- pieces

behind_first : (from to : ℕ) (ps : List Piece) (p : Piece) → PiecesJoin from ps to → IsAmong p ps → from ≤ p.offset
behind_first from to [] p join among = absurd among
behind_first from to (q ∷ ps) p join among =
    let at : q.offset ≡ from = join.0 in
    elim among [
      | inl same ↦ let e : p.offset ≡ q.offset = ap (λ x. x.offset) same in omega (arith, at, e)
      | inr after ↦ let e = behind_first (from + q.len) to ps p join.2 after in omega (arith, e)
    ]

-- each has an offset of its own
one_piece : (from to : ℕ) (ps : List Piece) (p q : Piece) → PiecesJoin from ps to → IsAmong p ps → IsAmong q ps → p.offset ≡ q.offset → p ≡ q
one_piece from to [] p q join one two same = absurd one
one_piece from to (x ∷ ps) p q join one two same =
    let at : x.offset ≡ from = join.0 in
    let some : 0 < x.len = join.1 in
    elim one [
      | inl first ↦ elim two [
        | inl also ↦ first ∙ sym also
        | inr after ↦
            let e : p.offset ≡ x.offset = ap (λ y. y.offset) first in
            let low = behind_first (from + x.len) to ps q join.2 after in
            absurd (omega (arith, at, some, e, low, same))
      ]
      | inr behind ↦ elim two [
        | inl first ↦
            let e : q.offset ≡ x.offset = ap (λ y. y.offset) first in
            let low = behind_first (from + x.len) to ps p join.2 behind in
            absurd (omega (arith, at, some, e, low, same))
        | inr after ↦ one_piece (from + x.len) to ps p q join.2 behind after same
      ]
    ]

-- ---- what was written

-- a piece that was written last with its zone
record WrittenAs (bytes : List ℕ) (r : Reserved) (written : ByNumber WrittenZone) (index : ℕ) (p : Piece) : Type 0 where
  row : WrittenZone
  is : map.get written index ≡ Some row
  zone : row.zone ≡ piece_zone row.epoch bytes r p
  within : p.offset + p.len ≤ length bytes

written_as : (bytes : List ℕ) (r : Reserved) (written : ByNumber WrittenZone) (index : ℕ) (p : Piece) (o : Option WrittenZone)
    → map.get written index ≡ o
    → is_zone_of bytes r p o ≡ true → WrittenAs bytes r written index p
written_as bytes r written index p None e holds = absurd cc
written_as bytes r written index p (Some w) e holds = record {
  row = w;
  is = e;
  zone = texts_equal w.zone (piece_zone w.epoch bytes r p) (and_parts (is_part bytes r p) _ holds).1;
  within = grind (arith, nat_tests, (and_parts (is_part bytes r p) _ holds).0);
}

-- each piece of the list was written so, under its place in the list
piece_written : (bytes : List ℕ) (r : Reserved) (written : ByNumber WrittenZone) (k : ℕ) (ps : List Piece) (p : Piece)
    → are_written bytes r written k ps ≡ true → IsAmong p ps
    → (index : ℕ) × (piece_at index ps ≡ Some p) × WrittenAs bytes r written (k + index) p
piece_written bytes r written k [] p all among = absurd among
piece_written bytes r written k (q ∷ ps) p all among =
    let here : is_zone_of bytes r q (map.get written k) ≡ true = (and_parts (is_zone_of bytes r q (map.get written k)) _ all).0 in
    let others : are_written bytes r written (k + 1) ps ≡ true = (and_parts (is_zone_of bytes r q (map.get written k)) _ all).1 in
    elim among [
      | inl same ↦
          let at : k ≡ k + 0 = omega arith in
          let first = written_as bytes r written k q (map.get written k) refl here in
          let first_of : WrittenAs bytes r written k p = subst (λ x. WrittenAs bytes r written k x) (sym same) first in
          (0, ap (λ x. Some x) (sym same), subst (λ n. WrittenAs bytes r written n p) at first_of)
      | inr after ↦
          let next = piece_written bytes r written (k + 1) ps p others after in
          let at : k + 1 + next.0 ≡ k + suc next.0 = omega arith in
          (suc next.0, piece_behind q ps next.0 p next.1, subst (λ n. WrittenAs bytes r written n p) at next.2)
    ]
  where
    piece_behind : (q : Piece) (ps : List Piece) (index : ℕ) (p : Piece) → piece_at index ps ≡ Some p → piece_at (suc index) (q ∷ ps) ≡ Some p
    piece_behind q ps index p is =
        let e : suc index - 1 ≡ index = omega arith in
        ap (λ b. cond b (Some q) (piece_at (suc index - 1) ps)) (ne_eqb (suc index) 0 (λ h. omega (arith, h))) ∙ ap (λ n. piece_at n ps) e ∙ is

-- a written piece is known where its zone stands
zone_known : (images : ByName Image) (bytes : List ℕ) (r : Reserved) (p : Piece) (w : WrittenZone) → WrittenKept images r.chunk p w
    → w.zone ≡ piece_zone w.epoch bytes r p
    → known_bytes (known_on images p.vsn.0) p.zone (zone_length p.version r.chunk p.len) ≡ Some (piece_zone w.epoch bytes r p)
zone_known images bytes r p w k same = ap (known_bytes (known_on images p.vsn.0) p.zone) (sym k.len) ∙ k.known ∙ ap (λ t. Some t) same

-- ---- the side of the group

module _ (g : ℕ) (entries : ByNumber Entry) (contents : ByNumber (List ℕ)) (taken : ByNumber (Unit {0})) (requests : ByNumber OpenRequest)
    (committed deleted : ByNumber (Unit {0})) (s : Side) (kept : SideKept entries contents taken requests g committed deleted s) (n : ℕ) (r : Reserved)
    (there : map.get s.group.reservations n ≡ Some r) where
  abbrev mine : ReservationKept s.group.tables.bitfiles s.group.tables.volumes s.group.tips s.images s.copies n r
  mine = kept.reservations.reservation n r there

  abbrev copied : CopyKept g entries contents requests s.group.reservations r.bfid.0 mine.copy
  copied = kept.reservations.copy r.bfid.0 mine.copy mine.is

  -- the chunks that are committed
  abbrev all_chunks : List Chunk
  all_chunks = flat_map (λ p. prelude.map (with_sum p.version copied.of.bytes) (chunks_of r.chunk p)) r.pieces

  -- a chunk with its piece
  record ChunkMade (c : Chunk) : Type 0 where
    piece : Piece
    among : IsAmong piece r.pieces
    base : Chunk
    part : IsAmong base (chunks_of r.chunk piece)
    same : with_sum piece.version copied.of.bytes base ≡ c
    inside : ChunkInside r.chunk piece base
    hand : ZoneInHand s.group.tables.volumes s.group.tips r.chunk piece

  chunk_made : (c : Chunk) → IsAmong c all_chunks → ChunkMade c
  chunk_made c among =
      let of = summed_of r.chunk copied.of.bytes r.pieces c among in
      record {
        piece = of.piece;
        among = of.among;
        base = of.base;
        part = of.part;
        same = of.same;
        inside = chunk_inside r.chunk of.piece of.base mine.some of.part;
        hand = mine.zones of.piece of.among;
      }

  -- its places are those of the chunk of the piece
  base_covers : (c : Chunk) (vsn : List ℕ) (place : ℕ) (m : ChunkMade c) → ChunkCovers c vsn place → ChunkCovers m.base vsn place
  base_covers c vsn place m covers =
      let d = subst (λ (x : Chunk). ChunkCovers x vsn place) (sym m.same) covers in
      record { same = d.same; low = d.low; high = d.high }

  -- the zone that it names is that of its piece
  made_zone : (c : Chunk) (m : ChunkMade c) → c.zone ≡ m.piece.zone
  made_zone c m = sym (ap (λ (x : Chunk). x.zone) m.same) ∙ m.inside.zone

  -- so what that zone has is of the zone of the piece
  piece_covers : (c : Chunk) (vsn : List ℕ) (place : ℕ) (m : ChunkMade c)
      → ZoneCovers c vsn place → HasReserving s.group.reservations n m.piece.offset vsn place
  piece_covers c vsn place m covers =
      let d = subst (λ (x : Chunk). ZoneCovers x vsn place) (sym m.same) covers in
      let zone = m.inside.zone in
      let high = m.inside.high in
      let from = d.low in
      let to = d.high in
      record {
        reserved = r;
        is = there;
        piece = m.piece;
        among = m.among;
        at = refl;
        covers = record {
          same = sym (ap (λ v. v.0) m.inside.volume) ∙ d.same;
          low = omega (arith, zone, from);
          high = omega (arith, high, to);
        };
      }

  made_zone_covers : (c : Chunk) (vsn : List ℕ) (place : ℕ) → ChunkMade c → ChunkCovers c vsn place → ZoneCovers c vsn place
  made_zone_covers c vsn place m covers =
      let d = base_covers c vsn place m covers in
      let zone = m.inside.zone in
      let behind = m.inside.low in
      let low = d.low in
      subst (λ (x : Chunk). ZoneCovers x vsn place) m.same (record { same = d.same; low = omega (arith, zone, behind, low); high = d.high })

  -- chunks whose zones share a place are of one piece
  same_piece : (c d : Chunk) (vsn : List ℕ) (place : ℕ) (a : ChunkMade c) (b : ChunkMade d) → ZoneCovers c vsn place → ZoneCovers d vsn place
      → a.piece ≡ b.piece
  same_piece c d vsn place a b cover covers =
      let owner = kept.places (KeptPlace n a.piece.offset) (KeptPlace n b.piece.offset) vsn place (piece_covers c vsn place a cover)
      (piece_covers d vsn place b covers) in
      one_piece 0 r.len r.pieces a.piece b.piece mine.joins a.among b.among (ap offset_of owner)

  -- no place is of two chunks
  made_apart : (c d : Chunk) (vsn : List ℕ) (place : ℕ) → IsAmong c all_chunks → IsAmong d all_chunks → ChunkCovers c vsn place → ChunkCovers d vsn place
      → c.offset ≡ d.offset
  made_apart c d vsn place one two cover covers =
      let a = chunk_made c one in
      let b = chunk_made d two in
      let same = same_piece c d vsn place a b (made_zone_covers c vsn place a cover) (made_zone_covers d vsn place b covers) in
      let base = chunks_apart r.chunk b.piece a.base b.base vsn place mine.some (subst (λ p. IsAmong a.base (chunks_of r.chunk p)) same a.part) b.part
      (base_covers c vsn place a cover) (base_covers d vsn place b covers) in
      sym (ap (λ (x : Chunk). x.offset) a.same) ∙ base ∙ ap (λ (x : Chunk). x.offset) b.same

  -- a chunk of a zone in hand is in hand
  base_in_hand : (p : Piece) (c : Chunk) → ChunkInside r.chunk p c → ZoneInHand s.group.tables.volumes s.group.tips r.chunk p
      → ChunkInHand s.group.tables.volumes s.group.tips (with_sum p.version copied.of.bytes c)
  base_in_hand p c inside hand =
      let at : p.vsn.0 ≡ c.vsn.0 = sym (ap (λ x. x.0) inside.volume) in
      let within : zone_end r.chunk p ≤ tip_in s.group.tips c.vsn.0 hand.volume =
      subst (λ x. zone_end r.chunk p ≤ tip_in s.group.tips x hand.volume) at hand.within in
      let zone = inside.zone in
      let behind = hand.behind in
      let high = inside.high in
      let low = subst (λ x. p.zone + zone_header + chunk_header x ≤ c.place) hand.version inside.low in
      record {
        volume = hand.volume;
        is = ap (map.get s.group.tables.volumes) (sym at) ∙ hand.is;
        usable = hand.usable;
        behind = omega (arith, zone, behind);
        headed = omega (arith, zone, low);
        within = omega (arith, high, within);
      }

  made_in_hand : (c : Chunk) → IsAmong c all_chunks → ChunkInHand s.group.tables.volumes s.group.tips c
  made_in_hand c among =
      let m = chunk_made c among in
      subst (ChunkInHand s.group.tables.volumes s.group.tips) m.same (base_in_hand m.piece m.base m.inside m.hand)

  base_lies : (p : Piece) (c : Chunk) → ChunkInside r.chunk p c → ZoneInHand s.group.tables.volumes s.group.tips r.chunk p
      → LiesOn s.group.tables.volumes (with_sum p.version copied.of.bytes c)
  base_lies p c inside hand =
      let at : c.vsn.0 ≡ p.vsn.0 = ap (λ x. x.0) inside.volume in
      let tip = (kept.volumes.volume p.vsn.0 hand.volume hand.is).tip in
      let within = hand.within in
      let behind = hand.behind in
      let low = inside.low in
      let high = inside.high in
      record {
        volume = hand.volume;
        is = ap (map.get s.group.tables.volumes) at ∙ hand.is;
        usable = hand.usable;
        behind = omega (arith, behind, low);
        within = omega (arith, high, within, tip);
        sum = sum_there (has_sum p.version) _ ∙ ap has_sum hand.version;
      }

  made_lies : (c : Chunk) → IsAmong c all_chunks → LiesOn s.group.tables.volumes c
  made_lies c among =
      let m = chunk_made c among in
      subst (LiesOn s.group.tables.volumes) m.same (base_lies m.piece m.base m.inside m.hand)

  made_right : (c : Chunk) → IsAmong c all_chunks → SumRight copied.of.bytes c
  made_right c among =
      let m = chunk_made c among in
      subst (SumRight copied.of.bytes) m.same (sum_right (has_sum m.piece.version) _)

  -- no other reservation is of the bitfile
  alone : EachRow (map.remove s.group.reservations n) (λ m q. q.bfid.0 ≡ r.bfid.0 → ⊥)
  alone = λ m q is same.
      let was = removed numbers s.group.reservations n m q is in
      let k = kept.reservations.reservation m q was.1 in
      let copy : k.copy ≡ mine.copy = one_row s.copies q.bfid.0 r.bfid.0 k.copy mine.copy same k.is mine.is in
      let held : k.held ≡ mine.held = same_row mine.copy.reservation k.held mine.held (ap (λ c. c.reservation) (sym copy) ∙ k.has) mine.has in
      was.0 (sym k.number ∙ ap (λ h. h.number) held ∙ mine.number)

  -- each chunk is known to be its part of the content
  made_known : all_written (map.get contents r.bfid.0) r (reservation_in (map.get s.copies r.bfid.0)) ≡ true → (c : Chunk) → IsAmong c all_chunks
      → ChunkKnown s.images copied.of.bytes c
  made_known all c among =
      let content = ap (λ o. all_written o r (reservation_in (map.get s.copies r.bfid.0))) copied.of.content in
      let copy = ap (λ o. all_written (Some copied.of.bytes) r (reservation_in o)) mine.is in
      let held = ap (λ o. all_written (Some copied.of.bytes) r o) mine.has in
      let every : are_written copied.of.bytes r mine.held.written 0 r.pieces ≡ true = sym (content ∙ copy ∙ held) ∙ all in
      let m = chunk_made c among in
      let w = piece_written copied.of.bytes r mine.held.written 0 r.pieces m.piece every m.among in
      let at : 0 + w.0 ≡ w.0 = omega arith in
      let is : map.get mine.held.written w.0 ≡ Some w.2.row = ap (map.get mine.held.written) (sym at) ∙ w.2.is in
      let zone = zone_known s.images copied.of.bytes r m.piece w.2.row (mine.written w.0 w.2.row is m.piece w.1) w.2.zone in
      let known = chunk_known (known_on s.images m.piece.vsn.0) m.piece w.2.row.epoch r.bfid.0 r.len r.chunk copied.of.bytes m.base w.2.within zone m.part in
      let base = subst (λ x. known_bytes (known_on s.images x.0) m.base.place m.base.len
      ≡ Some (take m.base.len (drop m.base.offset copied.of.bytes))) (sym m.inside.volume) known in
      subst (ChunkKnown s.images copied.of.bytes) m.same base

  -- the group wasn't told to delete it, since its put is open
  undeleted : EachRow requests (λ k q. RequestEntry entries q) → EachRow entries (λ b e. e.dropping ≡ is_some (map.get taken b))
      → (o : Option (Unit {0})) → map.get deleted r.bfid.0 ≡ o → o ≡ None
  undeleted puts dropping None is = refl
  undeleted puts dropping (Some u) is =
      let took = kept.catalogue.deletes_taken r.bfid.0 u is in
      let put = copied.put in
      let e = puts mine.copy.request put.request put.is in
      let d = dropping r.bfid.0 e.entry (ap (map.get entries) (sym put.same) ∙ e.is) in
      let lasting = e.lasting in
      absurd (cc)

  commit_needs_are : all_written (map.get contents r.bfid.0) r (reservation_in (map.get s.copies r.bfid.0)) ≡ true
      → map.get deleted r.bfid.0 ≡ None
      → CommitNeeds g entries contents s.images s.group.tables.volumes s.group.tips deleted (map.remove s.group.reservations n) r.bfid.0 r.len all_chunks
  commit_needs_are all not = record {
    puts = record {
      of = copied.of;
      known = made_known all;
      sums = made_right;
      hand = made_in_hand;
      undeleted = not;
    };
    whole = copied.of.sized ∙ copied.len ∙ mine.len;
    apart = made_apart;
    unreserved = alone;
  }

  may_commit : MayCommit s.group.tables r.bfid.0 r.len all_chunks
  may_commit = record {
    new = mine.new;
    stands = record {
      joins = summed_join r.chunk copied.of.bytes 0 r.pieces r.len mine.some mine.joins;
      lies = each_lies s.group.tables.volumes all_chunks made_lies;
    };
  }

  -- ---- places

  -- who has a place while the commit is journalled: another than the reservation, or a zone of it
  record IsOther (o : Owner) (vsn : List ℕ) (place : ℕ) : Type 0 where
    has : HasPlace s.group.tables.bitfiles s.group.reservations s.group.moves s.group.doubt o vsn place
    sure : (offset : ℕ) → o ≡ KeptPlace n offset → ⊥

  record IsMine (o : Owner) (vsn : List ℕ) (place : ℕ) : Type 0 where
    chunk : Chunk
    among : IsAmong chunk all_chunks
    owner : o ≡ Doubted chunk.zone
    covers : ZoneCovers chunk vsn place

  module _ (time : Secs) where
    abbrev committing : Option GroupRecord
    committing = Some (record { time = time; step = step.Commit r.bfid r.len all_chunks })

    had : (o : Owner) (vsn : List ℕ) (place : ℕ)
        → HasPlace s.group.tables.bitfiles (map.remove s.group.reservations n) s.group.moves committing o vsn place
        → IsOther o vsn place ⊎ IsMine o vsn place
    had (Live b offset) vsn place h = inl (record { has = h; sure = λ i e. cc })
    had (KeptPlace q offset) vsn place h =
        let was = removed numbers s.group.reservations n q h.reserved h.is in
        inl (record {
          has = record { reserved = h.reserved; is = was.1; piece = h.piece; among = h.among; at = h.at; covers = h.covers };
          sure = λ i e. was.0 (ap number_of e);
        })
    had (Target job) vsn place h = inl (record { has = h; sure = λ i e. cc })
    had (Doubted zone) vsn place h =
        inr (record { chunk = h.chunk; among = h.among; owner = ap (λ i. Doubted i) (sym h.at); covers = h.covers })

    other_than_mine : (o p : Owner) (vsn : List ℕ) (place : ℕ) → IsOther o vsn place → IsMine p vsn place → ⊥
    other_than_mine o p vsn place a b =
        let m = chunk_made b.chunk b.among in
        a.sure m.piece.offset (kept.places o (KeptPlace n m.piece.offset) vsn place a.has (piece_covers b.chunk vsn place m b.covers))

    places_committing : PlacesKept s.group.tables.bitfiles (map.remove s.group.reservations n) s.group.moves committing
    places_committing o p vsn place one two =
        elim (had o vsn place one) [
          | inl a ↦ elim (had p vsn place two) [
            | inl b ↦ kept.places o p vsn place a.has b.has
            | inr b ↦ absurd (other_than_mine o p vsn place a b)
          ]
          | inr a ↦ elim (had p vsn place two) [
            | inl b ↦ absurd (other_than_mine p o vsn place b a)
            | inr b ↦
                let one = chunk_made a.chunk a.among in
                let other = chunk_made b.chunk b.among in
                let same = ap (λ (q : Piece). q.zone) (same_piece a.chunk b.chunk vsn place one other a.covers b.covers) in
                a.owner ∙ ap (λ i. Doubted i) (made_zone a.chunk one ∙ same ∙ sym (made_zone b.chunk other)) ∙ sym b.owner
          ]
        ]

-- ---- the call

sums_are : (o : Option (List ℕ)) (bytes : List ℕ) (r : Reserved) (sums : List (List ℕ)) → o ≡ Some bytes → are_sums_of o r sums ≡ true
    → sums ≡ flat_map (piece_sums r.chunk bytes) r.pieces
sums_are None bytes r sums is e = cc
sums_are (Some xs) bytes r sums is e =
    let same : xs ≡ bytes = cc in
    same_sums_are sums (flat_map (piece_sums r.chunk xs) r.pieces) e ∙ ap (λ ys. flat_map (piece_sums r.chunk ys) r.pieces) same

module _ (j : Joint) (kept : InvariantHolds j) (w : ℕ) (g : GroupId) (s : Side) (side : map.get j.sides g.0 ≡ Some s) where
  abbrev done : Option GroupHistory
  done = map.get j.history.groups g.0

  abbrev own : KeptAs j g.0 done s
  own = kept.sides g.0 s side

  module _ (n now : ℕ) (r : Reserved) (is : map.get s.group.reservations n ≡ Some r) where
    abbrev ended : Joint
    ended = after_ending w (ending.Reservation g n r.bfid) j

    abbrev spent : Side
    spent = side_after_ending (ending.Reservation g n r.bfid) s

    abbrev record_of : List Chunk → GroupRecord
    record_of cs = record { time = record { 0 = group_time s.group now }; step = step.Commit r.bfid r.len cs }

    commit_pays_as : all_written (map.get j.history.contents r.bfid.0) r (reservation_in (map.get s.copies r.bfid.0)) ≡ true
        → (cs : List Chunk)
        → all_chunks g.0 j.daemon.tables.entries j.history.contents j.history.taken j.daemon.requests (committed_in done) (deleted_in done) s own n r is
        ≡ cs
        → Pays ended g.0 spent (record_of cs)
    commit_pays_as all cs same =
        let t = j.daemon.tables in
        let h = j.history in
        let k = own.reservations.reservation n r is in
        let c = own.reservations.copy r.bfid.0 k.copy k.is in
        let e = kept.requests.entry k.copy.request c.put.request c.put.is in
        let not = undeleted g.0 t.entries h.contents h.taken j.daemon.requests (committed_in done) (deleted_in done) s own n r is kept.requests.entry
        kept.taken.dropping (map.get (deleted_in done) r.bfid.0) refl in
        subst (λ xs. Pays ended g.0 spent (record_of xs)) same (record {
          now = record {
            may = record {
              follow = record {
                time = omega arith;
                step = may_commit g.0 t.entries h.contents h.taken j.daemon.requests (committed_in done) (deleted_in done) s own n r is;
              };
              needs = commit_needs_are g.0 t.entries h.contents h.taken j.daemon.requests (committed_in done) (deleted_in done) s own n r is all not;
            };
            places = places_committing g.0 t.entries h.contents h.taken j.daemon.requests (committed_in done) (deleted_in done) s own n r is
                (record { 0 = group_time s.group now });
          };
          lasting = λ b d there dropping away puts.
              let row = same_row (map.get t.entries b) e.entry d
              (ap (map.get t.entries) (sym puts ∙ sym c.put.same) ∙ e.is) there in
              let lasting = ap (λ (x : Entry). x.dropping) (sym row) ∙ e.lasting in
              absurd (cc);
        })

    commit_pays : (sums : List (List ℕ))
        → all_written (map.get j.history.contents r.bfid.0) r (reservation_in (map.get s.copies r.bfid.0)) ≡ true
        → are_sums_of (map.get j.history.contents r.bfid.0) r sums ≡ true
        → Pays ended g.0 spent (record_of (summed_chunks r.chunk r.pieces sums))
    commit_pays sums all right =
        let k = own.reservations.reservation n r is in
        let c = own.reservations.copy r.bfid.0 k.copy k.is in
        let same = sums_are (map.get j.history.contents r.bfid.0) c.of.bytes r sums c.of.content right in
        commit_pays_as all (summed_chunks r.chunk r.pieces sums)
        (sym (summed_are r.chunk c.of.bytes r.pieces) ∙ ap (summed_chunks r.chunk r.pieces) (sym same))

  pub commit_kept : (n : ℕ) (sums : List (List ℕ)) (now : ℕ) (o : Option Reserved) → map.get s.group.reservations n ≡ o
      → CallKept j w (commit g s.group n sums now o) (commit_needs j.history.contents s.copies n sums o)
  commit_kept n sums now None is =
      never_kept j w (commit g s.group n sums now None) (commit_needs j.history.contents s.copies n sums None) (λ all. let f = all.0 in cc)
  commit_kept n sums now (Some r) is =
      step_kept j kept w g s side (commit g s.group n sums now (Some r)) (commit_needs j.history.contents s.copies n sums (Some r)) (record {
        is = record { group = refl; unmarked = refl; unmade = refl; healed = inl refl };
        of = refl;
        ends = λ all.
            side_reservation_ended j.daemon.tables.entries j.history.contents j.history.taken j.daemon.requests g.0 (committed_in done) (deleted_in done) s
            g n r.bfid (reservation_ends s n r is all.1.0) own;
        pays = λ all none. (refl, commit_pays n now r is sums all.1.1.0 all.1.1.1.0);
      })
