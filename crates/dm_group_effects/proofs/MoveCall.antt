-- A move that is done keeps the joint state, where its chunk still stands, was read, and its zone was written.
use Rattle.std.proofs.Common.{◌≡◌, ◌⊎◌, ℕ, ◌+◌, ◌≤◌, ◌<◌, Bool, true, false, not, Option, Some, None, is_some, List, length, refl, sym, ap, subst}
use Rattle.std.proofs.Common.{◌∙◌, inl, inr, arith, eqb-true}
use Rattle.std.proofs.lemmas.Bool.{and_parts}
use Rattle.std.specs.FinMap as map
use Rattle.dm_base.specs.declared.identifier.GroupId.{GroupId}
use Rattle.dm_base.specs.declared.identifier.Secs.{Secs}
use Rattle.dm_base.specs.declared.volume.Chunk.{Chunk}
use Rattle.dm_base.specs.declared.volume.Piece.{Piece}
use Rattle.dm_rules.specs.Known.{known_bytes}
use Rattle.dm_rules.specs.Version.{chunk_header, has_sum}
use Rattle.dm_rules.specs.Zone.{chunk_sum, weight, zone_header, zone_length, zone_of}
use Rattle.dm_rules.proofs.Sizes.{one_chunk, zone_alone}
use Rattle.dm_tables.proofs.Orders.{numbers}
use Rattle.dm_tables.proofs.Rows.{removed}
use Rattle.dm_durable.specs.declared.daemon.Entry.{Entry}
use Rattle.dm_durable.specs.declared.group.BitfileRow.{BitfileRow}
use Rattle.dm_durable.specs.declared.group.GroupRecord.{GroupRecord}
use Rattle.dm_durable.specs.declared.group.GroupStep.TheVariants as step
use Rattle.dm_durable.specs.Group.{chunk_at}
use Rattle.dm_durable.specs.GroupConditions.{MayMove}
use Rattle.dm_durable.specs.Tables.{ByName, ByNumber}
use Rattle.dm_model.specs.declared.state.GroupHistory.{GroupHistory}
use Rattle.dm_model.specs.declared.state.Image.{Image}
use Rattle.dm_model.specs.declared.state.Joint.{Joint}
use Rattle.dm_model.specs.declared.state.MountState.{MountState}
use Rattle.dm_model.specs.declared.state.Moving.{Moving}
use Rattle.dm_model.specs.declared.state.OpenRequest.{OpenRequest}
use Rattle.dm_model.specs.declared.state.Side.{Side}
use Rattle.dm_model.specs.GroupCalls.{chunk_in, is_chunk, is_moved, move_done, move_done_needs, part_of, same_chunk, same_sum, was_moved}
use Rattle.dm_invariant.specs.Assemble.{ChunkKnown, IsSumOf, known_on}
use Rattle.dm_invariant.specs.Catalogue.{BitfileKept, LiesBefore}
use Rattle.dm_invariant.specs.Doubts.{ChunkInHand, PutNeeds}
use Rattle.dm_invariant.specs.Kept.{InvariantHolds, SideKept, committed_in, deleted_in}
use Rattle.dm_invariant.specs.Moves.{MoveKept, ReadPart, ReadRight, TargetWritten, WrittenRight}
use Rattle.dm_invariant.specs.Places.{Doubted, HasPlace, HasTarget, Reserving as KeptPlace, Live, Owner, PlacesKept, Target, ZoneCovers}
use Rattle.dm_invariant.proofs.Options.{none_some, same_row}
use Rattle.dm_invariant.proofs.Texts.{texts_equal}
use Rattle.dm_landing.proofs.VolumeChunkLists.{chunk_among, joins_within}
use Rattle.dm_effects.proofs.MoveEnded.{side_move_ended}
use Rattle.dm_group_effects.proofs.GroupPlans.{CallKept, never_kept, step_kept}
use Rattle.dm_group_effects.proofs.SideChanges.{KeptAs}
use Rattle.dm_group_effects.proofs.SummedChunks.{sum_right, sum_there}
use Rattle.dm_group_effects.proofs.ZoneBytes.{chunk_known}
use Rattle.dm_group_effects.proofs.ZoneChunks.{only_chunk}

-- ---- the same chunk

sums_same : (a b : Option (List ℕ)) → same_sum a b ≡ true → a ≡ b
sums_same None None e = refl
sums_same None (Some s) e = cc
sums_same (Some r) None e = cc
sums_same (Some r) (Some s) e = ap (λ x. Some x) (texts_equal r s e)

abbrev chunk_of : ℕ → ℕ → List ℕ → ℕ → ℕ → Option (List ℕ) → Chunk
chunk_of offset len vsn zone place sum =
    record { offset = offset; len = len; vsn = record { 0 = vsn }; zone = zone; place = place; sum = sum }

chunks_same : (c d : Chunk) → same_chunk c d ≡ true → c ≡ d
chunks_same c d e =
    let five = and_parts _ _ e in
    let four = and_parts _ _ five.0 in
    let three = and_parts _ _ four.0 in
    let two = and_parts _ _ three.0 in
    let one = and_parts _ _ two.0 in
    ap (λ x. chunk_of x c.len c.vsn.0 c.zone c.place c.sum) (eqb-true c.offset d.offset one.0)
    ∙ ap (λ x. chunk_of d.offset x c.vsn.0 c.zone c.place c.sum) (eqb-true c.len d.len one.1)
    ∙ ap (λ x. chunk_of d.offset d.len x c.zone c.place c.sum) (texts_equal c.vsn.0 d.vsn.0 two.1)
    ∙ ap (λ x. chunk_of d.offset d.len d.vsn.0 x c.place c.sum) (eqb-true c.zone d.zone three.1)
    ∙ ap (λ x. chunk_of d.offset d.len d.vsn.0 d.zone x c.sum) (eqb-true c.place d.place four.1)
    ∙ ap (λ x. chunk_of d.offset d.len d.vsn.0 d.zone d.place x) (sums_same c.sum d.sum five.1)

-- a bitfile that has the chunk
record HasChunk (bitfiles : ByNumber BitfileRow) (b : ℕ) (c : Chunk) : Type 0 where
  row : BitfileRow
  is : map.get bitfiles b ≡ Some row
  at : chunk_at c.offset row.chunks ≡ Some c

chunk_is : (c : Chunk) (o : Option Chunk) → is_chunk c o ≡ true → o ≡ Some c
chunk_is c None e = cc
chunk_is c (Some d) e = ap (λ x. Some x) (sym (chunks_same c d e))

has_chunk : (bitfiles : ByNumber BitfileRow) (b : ℕ) (c : Chunk) (o : Option BitfileRow) → map.get bitfiles b ≡ o
    → is_chunk c (chunk_in c.offset o) ≡ true → HasChunk bitfiles b c
has_chunk bitfiles b c None is e = cc
has_chunk bitfiles b c (Some row) is e = record { row = row; is = is; at = chunk_is c (chunk_at c.offset row.chunks) e }

-- ---- what was read and written

-- bytes were read, and their zone was written
record WasMoved (x : Moving) (sum read written : Option (List ℕ)) (epoch : ℕ) : Type 0 where
  bytes : List ℕ
  got : read ≡ Some bytes
  zone : List ℕ
  put : written ≡ Some zone
  same : zone ≡ zone_of x.version epoch x.bfid.0 x.total x.from.offset bytes (length bytes)
  right : sum ≡ chunk_sum x.version bytes

moved_as : (x : Moving) (sum : Option (List ℕ)) (epoch : ℕ) (bytes : List ℕ) (written : Option (List ℕ))
    → is_moved epoch x sum bytes written ≡ true → WasMoved x sum (Some bytes) written epoch
moved_as x sum epoch bytes None e = cc
moved_as x sum epoch bytes (Some zone) e =
    let parts = and_parts _ _ e in
    record {
      bytes = bytes;
      got = refl;
      zone = zone;
      put = refl;
      same = texts_equal zone _ parts.0;
      right = sums_same sum (chunk_sum x.version bytes) parts.1;
    }

moved_read : (x : Moving) (sum : Option (List ℕ)) (s t : MountState) (read : Option (List ℕ))
    → was_moved x sum (Some (record s { read = read })) (Some t) ≡ true → WasMoved x sum read t.written t.epoch
moved_read x sum s t None e = cc
moved_read x sum s t (Some bytes) e = moved_as x sum t.epoch bytes t.written e

was_moved_is : (x : Moving) (sum : Option (List ℕ)) (o p : Option MountState) (s t : MountState) → o ≡ Some s → p ≡ Some t
    → was_moved x sum o p ≡ true → WasMoved x sum s.read t.written t.epoch
was_moved_is x sum o p s t source target e =
    let one = subst (λ a. was_moved x sum a p ≡ true) source e in
    moved_read x sum s t s.read (subst (λ a. was_moved x sum (Some s) a ≡ true) target one)

read_of : (contents : ByNumber (List ℕ)) (b : ℕ) (c : Chunk) (o : Option (List ℕ)) (bytes : List ℕ) → o ≡ Some bytes → ReadRight contents b c o
    → ReadPart contents b c bytes
read_of contents b c o bytes is right = subst (ReadRight contents b c) is right

written_of : (images : ByName Image) (version : ℕ) (c : Chunk) (o : Option (List ℕ)) (zone : List ℕ) → o ≡ Some zone → WrittenRight images version c o
    → TargetWritten images version c zone
written_of images version c o zone is right = subst (WrittenRight images version c) is right

-- the zone of a moved chunk is known, so its bytes are
moved_known : (images : ByName Image) (version epoch b total : ℕ) (c : Chunk) (zone whole bytes : List ℕ)
    → c.offset + c.len ≤ length whole → 0 < c.len → part_of whole c.offset c.len ≡ bytes → length bytes ≡ c.len
    → c.place ≡ c.zone + zone_header + chunk_header version
    → zone ≡ zone_of version epoch b total c.offset bytes (length bytes)
    → TargetWritten images version c zone
    → known_bytes (known_on images c.vsn.0) c.place c.len ≡ Some (part_of whole c.offset c.len)
moved_known images version epoch b total c zone whole bytes within some part long stands is written =
    let known = known_on images c.vsn.0 in
    let p : Piece = record { vsn = c.vsn; version = version; zone = c.zone; offset = c.offset; len = c.len } in
    let base : Chunk = record {
      offset = c.offset;
      len = c.len;
      vsn = c.vsn;
      zone = c.zone;
      place = c.zone + zone_header + chunk_header version;
      sum = None;
    } in
    let alone : zone_length version c.len c.len ≡ weight version c.len = zone_alone version c.len c.len some (omega arith) in
    let at : known_bytes known c.zone (zone_length version c.len c.len) ≡ Some zone =
    ap (known_bytes known c.zone) (alone ∙ sym written.len) ∙ written.known in
    let of_len = ap (λ n. zone_of version epoch b total c.offset bytes n) long in
    let of_part = ap (λ xs. zone_of version epoch b total c.offset xs c.len) (sym part) in
    let whole_zone = at ∙ ap (λ z. Some z) (is ∙ of_len ∙ of_part) in
    let got = chunk_known known p epoch b total c.len whole base within whole_zone (only_chunk p (one_chunk c.len c.len some (omega arith))) in
    ap (λ q. known_bytes known q c.len) stands ∙ got

-- ---- the side of the group

-- the job of an owner that is the zone of a moved chunk
abbrev job_of : Owner → ℕ → ℕ
job_of (Live b offset) other = other
job_of (KeptPlace n offset) other = other
job_of (Target job) other = job
job_of (Doubted zone) other = other

module _ (g : ℕ) (entries : ByNumber Entry) (contents : ByNumber (List ℕ)) (taken : ByNumber (Unit {0})) (requests : ByNumber OpenRequest)
    (committed deleted : ByNumber (Unit {0})) (s : Side) (kept : SideKept entries contents taken requests g committed deleted s) (job : ℕ) (x : Moving)
    (there : map.get s.group.moves job ≡ Some x) (sum : Option (List ℕ)) where
  abbrev mine : MoveKept contents s.group.tables.volumes s.group.tips s.images s.mounts job x
  mine = kept.moves.moving job x there

  -- where the chunk goes, with its sum
  abbrev goes : Chunk
  goes = record x.to { sum = sum }

  -- its zone is that of the target
  covers_target : (vsn : List ℕ) (place : ℕ) → ZoneCovers goes vsn place → HasTarget s.group.moves job vsn place
  covers_target vsn place covers =
      let high = covers.high in
      let stands = mine.moved.place in
      record {
        moving = x;
        is = there;
        covers = record { same = covers.same; low = covers.low; high = omega (arith, high, stands) };
      }

  goes_in_hand : ChunkInHand s.group.tables.volumes s.group.tips goes
  goes_in_hand =
      let zone = mine.zone in
      let within = zone.within in
      let stands : x.to.place ≡ x.to.zone + zone_header + chunk_header zone.volume.version =
      subst (λ v. x.to.place ≡ x.to.zone + zone_header + chunk_header v) zone.same mine.moved.place in
      let at = mine.moved.place in
      record {
        volume = zone.volume;
        is = zone.is;
        usable = zone.usable;
        behind = zone.behind;
        headed = omega (arith, stands);
        within = omega (arith, within, at);
      }

  -- who has a place while the move is journalled: another than the move, or the chunk that is moved
  record IsOther (o : Owner) (vsn : List ℕ) (place : ℕ) : Type 0 where
    has : HasPlace s.group.tables.bitfiles s.group.reservations s.group.moves s.group.doubt o vsn place
    sure : o ≡ Target job → ⊥

  record IsMine (o : Owner) (vsn : List ℕ) (place : ℕ) : Type 0 where
    owner : o ≡ Doubted x.to.zone
    has : HasTarget s.group.moves job vsn place

  module _ (time : Secs) where
    abbrev moving_it : Option GroupRecord
    moving_it = Some (record { time = time; step = step.Move x.bfid x.from goes })

    had : (o : Owner) (vsn : List ℕ) (place : ℕ)
        → HasPlace s.group.tables.bitfiles s.group.reservations (map.remove s.group.moves job) moving_it o vsn place
        → IsOther o vsn place ⊎ IsMine o vsn place
    had (Live b offset) vsn place h = inl (record { has = h; sure = λ e. cc })
    had (KeptPlace q offset) vsn place h = inl (record { has = h; sure = λ e. cc })
    had (Target q) vsn place h =
        let was = removed numbers s.group.moves job q h.moving h.is in
        inl (record {
          has = record { moving = h.moving; is = was.1; covers = h.covers };
          sure = λ e. was.0 (ap (λ o. job_of o 0) e);
        })
    had (Doubted zone) vsn place h =
        let same : h.chunk ≡ goes = h.among in
        let at : zone ≡ x.to.zone = sym h.at ∙ ap (λ (c : Chunk). c.zone) same in
        inr (record {
          owner = ap (λ i. Doubted i) at;
          has = covers_target vsn place (subst (λ (c : Chunk). ZoneCovers c vsn place) same h.covers);
        })

    places_moving : PlacesKept s.group.tables.bitfiles s.group.reservations (map.remove s.group.moves job) moving_it
    places_moving o p vsn place one two =
        elim (had o vsn place one) [
          | inl a ↦ elim (had p vsn place two) [
            | inl b ↦ kept.places o p vsn place a.has b.has
            | inr b ↦ absurd (a.sure (kept.places o (Target job) vsn place a.has b.has))
          ]
          | inr a ↦ elim (had p vsn place two) [
            | inl b ↦ absurd (b.sure (kept.places p (Target job) vsn place b.has a.has))
            | inr b ↦ a.owner ∙ sym b.owner
          ]
        ]

  -- ---- what the step needs

  module _ (has : HasChunk s.group.tables.bitfiles x.bfid.0 x.from) (moved : WasMoved x sum mine.source.read mine.target.written mine.target.epoch) where
    abbrev file : BitfileKept g entries contents s.group.tables.volumes s.images x.bfid.0 has.row
    file = kept.catalogue.bitfile x.bfid.0 has.row has.is

    abbrev lies : LiesBefore s.group.tables.volumes x.from
    lies = file.lies x.from (chunk_among x.from.offset has.row.chunks x.from has.at)

    may_move : MayMove s.group.tables x.bfid.0 x.from goes
    may_move =
        let zone = mine.zone in
        let within = zone.within in
        let behind = zone.behind in
        let stands = mine.moved.place in
        let tip = (kept.volumes.volume x.to.vsn.0 zone.volume zone.is).tip in
        record {
          row = has.row;
          is = has.is;
          has = has.at;
          old = record { volume = lies.volume; is = lies.is; sum = lies.sum };
          offset = mine.moved.offset;
          len = mine.moved.len;
          lies = record {
            volume = zone.volume;
            is = zone.is;
            usable = zone.usable;
            behind = omega (arith, behind, stands);
            within = omega (arith, within, stands, tip);
            sum = ap is_some moved.right ∙ sum_there (has_sum x.version) moved.bytes ∙ ap has_sum zone.same;
          };
        }

    abbrev part : ReadPart contents x.bfid.0 x.from moved.bytes
    part = read_of contents x.bfid.0 x.from mine.source.read moved.bytes moved.got mine.read

    -- what was read is the part of the content at the chunk that is moved
    goes_part : part_of file.of.bytes x.to.offset x.to.len ≡ moved.bytes
    goes_part =
        let same : file.of.bytes ≡ part.whole = same_row (map.get contents x.bfid.0) file.of.bytes part.whole file.of.content part.content in
        ap (λ n. part_of file.of.bytes n x.to.len) mine.moved.offset ∙ ap (λ n. part_of file.of.bytes x.from.offset n) mine.moved.len
        ∙ ap (λ xs. part_of xs x.from.offset x.from.len) same ∙ part.part

    goes_known : ChunkKnown s.images file.of.bytes goes
    goes_known =
        let written = written_of s.images x.version x.to mine.target.written moved.zone moved.put mine.written in
        let some : 0 < x.to.len = subst (λ n. 0 < n) (sym mine.moved.len) mine.some in
        let inside = joins_within 0 has.row.len has.row.chunks x.from file.joins (chunk_among x.from.offset has.row.chunks x.from has.at) in
        let whole = file.of.sized ∙ file.len in
        let offset = mine.moved.offset in
        let len = mine.moved.len in
        moved_known s.images x.version mine.target.epoch x.bfid.0 x.total x.to moved.zone file.of.bytes moved.bytes
        (omega (arith, inside, whole, offset, len)) some goes_part (part.len ∙ sym mine.moved.len) mine.moved.place
        (moved.same ∙ ap (λ n. zone_of x.version mine.target.epoch x.bfid.0 x.total n moved.bytes (length moved.bytes)) (sym mine.moved.offset))
        written

    goes_right : IsSumOf (part_of file.of.bytes goes.offset goes.len) sum
    goes_right =
        subst (λ xs. IsSumOf xs sum) (sym goes_part)
        (subst (IsSumOf moved.bytes) (sym moved.right) (sum_right (has_sum x.version) moved.bytes))

    undeleted : (o : Option (Unit {0})) → map.get deleted x.bfid.0 ≡ o → o ≡ None
    undeleted None is = refl
    undeleted (Some u) is = absurd (none_some (map.get s.group.tables.bitfiles x.bfid.0) has.row (kept.catalogue.deletes x.bfid.0 u is) has.is)

    move_needs : PutNeeds g entries contents s.images s.group.tables.volumes s.group.tips deleted x.bfid.0 (λ c. c ≡ goes)
    move_needs = record {
      of = file.of;
      known = λ c same. subst (ChunkKnown s.images file.of.bytes) (sym same) goes_known;
      sums = λ c same. subst (λ (d : Chunk). IsSumOf (part_of file.of.bytes d.offset d.len) d.sum) (sym same) goes_right;
      hand = λ c same. subst (ChunkInHand s.group.tables.volumes s.group.tips) (sym same) goes_in_hand;
      undeleted = undeleted (map.get deleted x.bfid.0) refl;
    }

-- ---- the call

not_false : (b : Bool) → not b ≡ false → b ≡ true
not_false true e = refl
not_false false e = cc

module _ (j : Joint) (kept : InvariantHolds j) (w : ℕ) (g : GroupId) (s : Side) (side : map.get j.sides g.0 ≡ Some s) where
  abbrev done : Option GroupHistory
  done = map.get j.history.groups g.0

  abbrev own : KeptAs j g.0 done s
  own = kept.sides g.0 s side

  pub move_done_kept : (job : ℕ) (sum : Option (List ℕ)) (now : ℕ) (o : Option Moving) → map.get s.group.moves job ≡ o
      → CallKept j w (move_done g s.group job sum now o) (move_done_needs s.mounts sum o)
  move_done_kept job sum now None is =
      never_kept j w (move_done g s.group job sum now None) (move_done_needs s.mounts sum None) (λ all. let f = all.0 in cc)
  move_done_kept job sum now (Some x) is =
      step_kept j kept w g s side (move_done g s.group job sum now (Some x)) (move_done_needs s.mounts sum (Some x)) (record {
        is = record { group = refl; unmarked = refl; unmade = refl; healed = inl refl };
        of = refl;
        ends = λ all.
            side_move_ended j.daemon.tables.entries j.history.contents j.history.taken j.daemon.requests g.0 (committed_in done) (deleted_in done) s g job
            x is own;
        pays = λ all none.
            let t = j.daemon.tables in
            let h = j.history in
            let k = own.moves.moving job x is in
            let bitfiles = s.group.tables.bitfiles in
            let has = has_chunk bitfiles x.bfid.0 x.from (map.get bitfiles x.bfid.0) refl (not_false _ none.0) in
            let moved = was_moved_is x sum (map.get s.mounts x.source) (map.get s.mounts x.target) k.source k.target k.source_is k.target_is all.0 in (
              refl,
              record {
                now = record {
                  may = record {
                    follow = record {
                      time = omega arith;
                      step = may_move g.0 t.entries h.contents h.taken j.daemon.requests (committed_in done) (deleted_in done) s own job x is sum has moved;
                    };
                    needs =
                        move_needs g.0 t.entries h.contents h.taken j.daemon.requests (committed_in done) (deleted_in done) s own job x is sum has moved;
                  };
                  places = places_moving g.0 t.entries h.contents h.taken j.daemon.requests (committed_in done) (deleted_in done) s own job x is sum _;
                };
                lasting = λ b e at dropping away puts.
                    none_some (map.get bitfiles x.bfid.0) has.row (ap (map.get bitfiles) puts ∙ away.away) has.is;
              },
            );
      })
