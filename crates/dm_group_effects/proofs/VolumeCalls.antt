-- Each legal call on a volume keeps the joint state, answered or failed.
use Rattle.std.proofs.Common.{◌≡◌, ℕ, zero, suc, ◌+◌, ◌≤◌, ◌&&◌, ◌||◌, Bool, true, false, cond, not, nat_eq, Option, Some, None, IsSome, is_some, List, [], ◌∷◌, ◌++◌, length, drop, refl}
use Rattle.std.proofs.Common.{sym, ap, ◌∙◌, subst, arith, eqb-true, length-take, length-drop}
use Rattle.std.specs.FinMap as map
use Rattle.std.specs.List.{Contains}
use Rattle.std.proofs.lemmas.Bool.{and_parts}
use Rattle.std.proofs.lemmas.List.Elements.{Contains-append_right}
use Rattle.dm_base.specs.declared.conf.GroupConf.{GroupConf}
use Rattle.dm_base.specs.declared.identifier.Bfid.{Bfid}
use Rattle.dm_base.specs.declared.identifier.GroupId.{GroupId}
use Rattle.dm_base.specs.declared.serial.Vsn.{Vsn}
use Rattle.dm_base.specs.declared.volume.Chunk.{Chunk}
use Rattle.dm_base.specs.declared.volume.Piece.{Piece}
use Rattle.dm_rules.specs.Known.{Known, agrees_with_known, byte_and, known_bytes}
use Rattle.dm_rules.specs.Label.{first_zone, label}
use Rattle.dm_rules.specs.Zone.{weight, zone_length}
use Rattle.dm_rules.proofs.Knowledge.{agrees-known_bytes}
use Rattle.dm_durable.specs.Tables.{ByNumber, same_text}
use Rattle.dm_durable.specs.Volumes.{epoch_or}
use Rattle.dm_model.specs.declared.call.VolumeCall.{VolumeCall}
use Rattle.dm_model.specs.declared.call.VolumeCall.TheVariants as call
use Rattle.dm_model.specs.declared.plan.Mark.TheVariants as mark
use Rattle.dm_model.specs.declared.state.GroupHistory.{GroupHistory}
use Rattle.dm_model.specs.declared.state.Image.{Image}
use Rattle.dm_model.specs.declared.state.Joint.{Joint}
use Rattle.dm_model.specs.declared.state.MountState.{MountState}
use Rattle.dm_model.specs.declared.state.Origin.{Origin}
use Rattle.dm_model.specs.declared.state.Origin.TheVariants as origin
use Rattle.dm_model.specs.declared.state.Side.{Side}
use Rattle.dm_model.specs.Effects.{after_failed_mark, after_mark, joint_with_doubt}
use Rattle.dm_model.specs.GroupCalls.{part_of}
use Rattle.dm_model.specs.Hashed.{SumsTellApart, hashed_of_chunk, hashed_of_read, hashed_on_volume, hashed_under, parts_of_content}
use Rattle.dm_model.specs.Guards.{AllHold}
use Rattle.dm_model.specs.Plan.{guards_always, guards_of, prepared_plan, refusal_of}
use Rattle.dm_model.specs.Step.{after_call, after_fault}
use Rattle.dm_model.specs.VolumeCalls.{has_sum_of, is_planned_label, is_read_of, is_zone_place, mount_in, read_mark, volume_needs, volume_plan, zone_mark}
use Rattle.dm_invariant.specs.Assemble.{IsSumOf, known_of, known_on}
use Rattle.dm_invariant.specs.Kept.{InvariantHolds, committed_in, deleted_in}
use Rattle.dm_invariant.specs.Mounts.{MayRead, OriginKept, PieceMount, ReadsChunk, TargetMount}
use Rattle.dm_invariant.specs.Moves.{ReadPart}
use Rattle.dm_invariant.specs.OnceLive.{MountOnce, OnceLive, StillThere}
use Rattle.dm_invariant.specs.Requests.{PartAt}
use Rattle.dm_invariant.specs.Volumes.{ConfFits, IsOfConf}
use Rattle.dm_invariant.proofs.Lists.{passing}
use Rattle.dm_invariant.proofs.Options.{same_row}
use Rattle.dm_invariant.proofs.Texts.{texts_equal}
use Rattle.dm_effects.proofs.LabelMarked.{side_label_failed, side_labelled}
use Rattle.dm_effects.proofs.SourceMarked.{SourceFits, side_source_read}
use Rattle.dm_effects.proofs.TargetMarked.{TargetFits, side_target_failed, side_target_written}
use Rattle.dm_effects.proofs.ZoneMarked.{ZoneFits, side_zone_failed, side_zone_written}
use Rattle.dm_group_effects.proofs.PartsKept.{failed_mark_keeps, mark_keeps}
use Rattle.dm_group_effects.proofs.ReadNoted.{ReadFits, read_keeps}
use Rattle.dm_group_effects.proofs.SideChanges.{KeptAs}
use Rattle.dm_group_effects.specs.OnVolume.{parts_of_origin, parts_on_volume, parts_under}
use Rattle.sha2.specs.Sha256.{sha256}

-- ---- a label

-- a label of a serial number of six characters has 64 bytes
length_label : (vsn : List ℕ) (group version epoch size : ℕ) → length vsn ≡ 6 → length (label vsn group version epoch size) ≡ first_zone
unfolding label
length_label (s ∷ t ∷ u ∷ v ∷ w ∷ x ∷ []) group version epoch size six = refl
length_label [] group version epoch size six = absurd (omega arith)
length_label (s ∷ []) group version epoch size six = absurd (omega arith)
length_label (s ∷ t ∷ []) group version epoch size six = absurd (omega arith)
length_label (s ∷ t ∷ u ∷ []) group version epoch size six = absurd (omega arith)
length_label (s ∷ t ∷ u ∷ v ∷ []) group version epoch size six = absurd (omega arith)
length_label (s ∷ t ∷ u ∷ v ∷ w ∷ []) group version epoch size six = absurd (omega arith)
length_label (s ∷ t ∷ u ∷ v ∷ w ∷ x ∷ y ∷ vsn) group version epoch size six = absurd (omega arith)

-- a volume of the configuration has a serial number of six
six_characters : (conf : GroupConf) (vsn : List ℕ) → ConfFits conf → IsOfConf conf vsn → length vsn ≡ 6
six_characters conf vsn fits is =
    let v = passing (λ (v : Vsn). same_text v.0 vsn) conf.volumes is in
    ap length (sym (texts_equal v.0.0 vsn v.2)) ∙ (fits.serials v.0 v.1).six

-- ---- known bytes

byte_more : (o : Option ℕ) (rest : Option (List ℕ)) (n : ℕ) (bs : List ℕ) → ((xs : List ℕ) → rest ≡ Some xs → length xs ≡ n)
    → byte_and o rest ≡ Some bs → length bs ≡ suc n
byte_more None rest n bs more is = cc
byte_more (Some b) None n bs more is = cc
byte_more (Some b) (Some xs) n bs more is =
    let long = more xs refl in
    let same : b ∷ xs ≡ bs = cc in
    ap length (sym same) ∙ ap suc long

-- as many as were asked
known_length : (known : Known) (place n : ℕ) (bs : List ℕ) → known_bytes known place n ≡ Some bs → length bs ≡ n
unfolding known_bytes
known_length known place zero bs is = let none : List ℕ = [] in let same : none ≡ bs = cc in ap length (sym same)
known_length known place (suc n) bs is =
    byte_more (map.get known place) (known_bytes known (place + 1) n) n bs (λ xs there. known_length known (place + 1) n xs there) is

-- ---- a read that counts

-- the bytes have the chunk's sum, where it has one
sum_of : (sum : Option (List ℕ)) (s bytes : List ℕ) → sum ≡ Some s → has_sum_of sum bytes ≡ true → s ≡ sha256 bytes
sum_of None s bytes is e = cc
sum_of (Some t) s bytes is e =
    let same : t ≡ s = cc in
    sym same ∙ texts_equal t (sha256 bytes) e

sum_right : (sum : Option (List ℕ)) (s part : List ℕ) → sum ≡ Some s → IsSumOf part sum → s ≡ sha256 part
sum_right None s part is e = cc
sum_right (Some t) s part is e =
    let same : t ≡ s = cc in
    sym same ∙ e

bound_agrees : (bound agree : Bool) → (not bound || agree) ≡ true → bound ≡ true → agree ≡ true
bound_agrees true agree e is = e
bound_agrees false agree e is = cc

-- what a whole read of a chunk gave is hashed, where the chunk has a sum
hashed_here : (c : Chunk) (place n : ℕ) (bytes s : List ℕ) → nat_eq place c.place ≡ true → nat_eq n c.len ≡ true → c.sum ≡ Some s
    → hashed_of_chunk c place n bytes ≡ bytes ∷ []
hashed_here c place n bytes s at long sum =
    ap (λ b. cond (b && nat_eq n c.len && is_some c.sum) (bytes ∷ []) []) at
    ∙ ap (λ b. cond (true && b && is_some c.sum) (bytes ∷ []) []) long
    ∙ ap (λ o. cond (true && true && is_some o) (bytes ∷ []) []) sum

-- the first of a list, and the first behind it
contains_first : (x : List ℕ) (xs : List (List ℕ)) → Contains (x ∷ xs) x
contains_first x xs = (0, omega arith, refl)

-- what is left of a chunk that was once live, where its volume has the epoch of the mount
record ReadIs (contents : ByNumber (List ℕ)) (b : ℕ) (c : Chunk) (bytes : List ℕ) : Type 0 where
  whole : List ℕ
  content : map.get contents b ≡ Some whole
  within : c.offset + c.len ≤ length whole
  len : length bytes ≡ c.len
  part : part_of whole c.offset c.len ≡ bytes

module _ (j : Joint) (kept : InvariantHolds j) (w : ℕ) (g : GroupId) (s : Side) (side : map.get j.sides g.0 ≡ Some s) where
  abbrev done : Option GroupHistory
  done = map.get j.history.groups g.0

  abbrev own : KeptAs j g.0 done s
  own = kept.sides g.0 s side

  module _ (vsn : Vsn) (image : Image) (x : MountState) (m : ℕ) (there : map.get s.images vsn.0 ≡ Some image) (mount : map.get s.mounts m ≡ Some x)
      (same : x.vsn.0 ≡ vsn.0) where
    abbrev has_image : IsSome (map.get s.images vsn.0)
    has_image = ap is_some there

    -- ---- a zone is written

    piece_fits : (place : ℕ) (zone : List ℕ) (b : Bfid) (index : ℕ) (p : Piece) (chunk : ℕ)
        → PieceMount s.group.reservations s.copies m b.0 index p chunk x.vsn
        → (nat_eq place p.zone && nat_eq (length zone) (zone_length p.version chunk p.len)) ≡ true → ZoneFits s vsn.0 place zone b.0 index
    piece_fits place zone b index p chunk k at =
        let parts = and_parts _ _ at in
        record {
          copy = k.copy;
          is = k.is;
          held = k.held;
          has = k.has;
          reserved = k.reserved;
          there = k.there;
          same = k.same;
          piece = p;
          at = k.piece;
          volume = ap (λ v. v.0) k.volume ∙ same;
          stands = sym (eqb-true place p.zone parts.0);
          len = eqb-true _ _ parts.1 ∙ ap (λ c. zone_length p.version c p.len) (sym k.cut);
          image = has_image;
        }

    target_fits : (place : ℕ) (zone : List ℕ) (job : ℕ) (b : Bfid) (total : ℕ) (c : Chunk) (version : ℕ)
        → TargetMount s.group.moves m job b total c version x.vsn
        → (nat_eq place c.zone && nat_eq (length zone) (weight version c.len)) ≡ true → TargetFits s vsn.0 m place zone
    target_fits place zone job b total c version k at =
        let parts = and_parts _ _ at in
        record {
          job = job;
          moving = k.moving;
          is = k.is;
          mine = k.target;
          volume = ap (λ (d : Chunk). d.vsn.0) k.to ∙ ap (λ v. v.0) k.volume ∙ same;
          stands = ap (λ (d : Chunk). d.zone) k.to ∙ sym (eqb-true place c.zone parts.0);
          len = eqb-true _ _ parts.1 ∙ ap (λ v. weight v c.len) (sym k.same) ∙ ap (λ (d : Chunk). weight k.moving.version d.len) (sym k.to);
          image = has_image;
        }

    zone_kept : (place : ℕ) (zone : List ℕ) (epoch : ℕ) (made : Origin)
        → OriginKept s.group.conf s.group.reservations s.copies s.group.moves s.group.reuses m x.vsn made
        → is_zone_place made place (length zone) ≡ true → InvariantHolds (after_mark w (zone_mark g vsn m place zone epoch made) j)
    zone_kept place zone epoch (origin.New listed format) k at = kept
    zone_kept place zone epoch (origin.Piece b index p chunk) k at =
        mark_keeps j kept g s side w (mark.Zone g vsn place zone b index epoch) refl tt
        (side_zone_written j.daemon.tables.entries j.history.contents j.history.taken j.daemon.requests g.0 (committed_in done) (deleted_in done) s g vsn
        place zone b index epoch (piece_fits place zone b index p chunk k at) own)
    zone_kept place zone epoch (origin.Chunk b c) k at = kept
    zone_kept place zone epoch (origin.Source job b c) k at = kept
    zone_kept place zone epoch (origin.Target job b total c version) k at =
        mark_keeps j kept g s side w (mark.Target g vsn m place zone) refl tt
        (side_target_written j.daemon.tables.entries j.history.contents j.history.taken j.daemon.requests g.0 (committed_in done) (deleted_in done) s g
        vsn m place zone (target_fits place zone job b total c version k at) own)
    zone_kept place zone epoch (origin.Reuse next_epoch version reading) k at = kept

    zone_failed : (place : ℕ) (zone : List ℕ) (epoch : ℕ) (made : Origin)
        → OriginKept s.group.conf s.group.reservations s.copies s.group.moves s.group.reuses m x.vsn made
        → is_zone_place made place (length zone) ≡ true → InvariantHolds (after_failed_mark (zone_mark g vsn m place zone epoch made) j)
    zone_failed place zone epoch (origin.New listed format) k at = kept
    zone_failed place zone epoch (origin.Piece b index p chunk) k at =
        failed_mark_keeps j kept g s side (mark.Zone g vsn place zone b index epoch) refl
        (side_zone_failed j.daemon.tables.entries j.history.contents j.history.taken j.daemon.requests g.0 (committed_in done) (deleted_in done) s g vsn
        place zone b index epoch (piece_fits place zone b index p chunk k at) own)
    zone_failed place zone epoch (origin.Chunk b c) k at = kept
    zone_failed place zone epoch (origin.Source job b c) k at = kept
    zone_failed place zone epoch (origin.Target job b total c version) k at =
        failed_mark_keeps j kept g s side (mark.Target g vsn m place zone) refl
        (side_target_failed j.daemon.tables.entries j.history.contents j.history.taken j.daemon.requests g.0 (committed_in done) (deleted_in done) s g
        vsn m place zone (target_fits place zone job b total c version k at) own)
    zone_failed place zone epoch (origin.Reuse next_epoch version reading) k at = kept

    -- ---- a label is written

    planned_configured : (epoch version : ℕ) (made : Origin)
        → OriginKept s.group.conf s.group.reservations s.copies s.group.moves s.group.reuses m x.vsn made → is_planned_label made epoch version ≡ true
        → IsOfConf s.group.conf x.vsn.0
    planned_configured epoch version (origin.New listed format) k at = k.configured
    planned_configured epoch version (origin.Piece b index p chunk) k at = cc
    planned_configured epoch version (origin.Chunk b c) k at = cc
    planned_configured epoch version (origin.Source job b c) k at = cc
    planned_configured epoch version (origin.Target job b total c v) k at = cc
    planned_configured epoch version (origin.Reuse next_epoch v reading) k at =
        let r = own.reuses m k.reusing k.is in
        subst (λ (q : Vsn). IsOfConf s.group.conf q.0) k.volume (own.volumes.volume k.reusing.vsn.0 r.volume r.known).configured

    label_long : (epoch version : ℕ) → is_planned_label x.origin epoch version ≡ true
        → length (label vsn.0 g.0 version epoch image.size) ≡ first_zone
    label_long epoch version at =
        let of = planned_configured epoch version x.origin (own.mounts.origin m x mount) at in
        length_label vsn.0 g.0 version epoch image.size (ap length (sym same) ∙ six_characters s.group.conf x.vsn.0 own.volumes.fits of)

    -- ---- a chunk is read

    -- the chunk is still there, since its volume has the epoch of the mount
    still_there : (b : Bfid) (c : Chunk) → c.vsn ≡ x.vsn
        → (o : OnceLive j.history.contents s.group.tables.volumes s.images s.group.reservations s.group.moves x.epoch b.0 c)
        → StillThere j.history.contents s.images s.group.reservations s.group.moves o.volume b.0 c
    still_there b c of o =
        o.still (sym (own.mounts.epoch m x mount ∙ ap epoch_or (ap (λ (v : Vsn). map.get s.group.tables.volumes v.0) (sym of) ∙ o.is)))

    read_is : (b : Bfid) (c : Chunk) (place n : ℕ) (bytes : List ℕ) → c.vsn ≡ x.vsn
        → OnceLive j.history.contents s.group.tables.volumes s.images s.group.reservations s.group.moves x.epoch b.0 c
        → ReadsChunk c x.bound → is_read_of c place n bytes ≡ true → nat_eq (length bytes) n ≡ true
        → (not x.bound || agrees_with_known image.known place bytes) ≡ true
        → SumsTellApart (parts_of_content (map.get j.history.contents b.0) (c ∷ []) ++ hashed_of_chunk c place n bytes)
        → ReadIs j.history.contents b.0 c bytes
    read_is b c place n bytes of o reads counts long agree apart =
        let still = still_there b c of o in
        let two = and_parts _ _ counts in
        let one = and_parts _ _ two.0 in
        let at : c.place ≡ place = sym (eqb-true place c.place one.0) in
        let len : length bytes ≡ c.len = eqb-true (length bytes) n long ∙ eqb-true n c.len one.1 in
        let part = part_of still.bytes c.offset c.len in
        let whole : length part ≡ c.len = known_length (known_on s.images c.vsn.0) c.place c.len part still.known in
        let some = reads.some in
        let within : c.offset + c.len ≤ length still.bytes =
        omega (arith, whole, some, length-take c.len (drop c.offset still.bytes), length-drop c.offset still.bytes) in
        record {
          whole = still.bytes;
          content = still.content;
          within = within;
          len = len;
          part = by_sum c.sum refl;
        }
      where
        by_sum : (sum : Option (List ℕ)) → c.sum ≡ sum → part_of (still_there b c of o).bytes c.offset c.len ≡ bytes
        by_sum None none =
            let still = still_there b c of o in
            let one = and_parts _ _ (and_parts _ _ counts).0 in
            let at : place ≡ c.place = eqb-true place c.place one.0 in
            let len : length bytes ≡ c.len = eqb-true (length bytes) n long ∙ eqb-true n c.len one.1 in
            let agreed = bound_agrees x.bound (agrees_with_known image.known place bytes) agree (reads.known none) in
            let image_is : map.get s.images c.vsn.0 ≡ Some image = ap (λ (v : Vsn). map.get s.images v.0) of ∙ ap (map.get s.images) same ∙ there in
            let known : known_bytes image.known place (length bytes) ≡ Some (part_of still.bytes c.offset c.len) =
            ap (known_bytes image.known place) len ∙ ap (λ p. known_bytes image.known p c.len) at
            ∙ ap (λ o. known_bytes (known_of o) c.place c.len) (sym image_is) ∙ still.known in
            sym (agrees-known_bytes image.known place bytes (part_of still.bytes c.offset c.len) agreed known)
        by_sum (Some sum) is =
            let still = still_there b c of o in
            let two = and_parts _ _ counts in
            let one = and_parts _ _ two.0 in
            let len : length bytes ≡ c.len = eqb-true (length bytes) n long ∙ eqb-true n c.len one.1 in
            let part = part_of still.bytes c.offset c.len in
            let whole : length part ≡ c.len = known_length (known_on s.images c.vsn.0) c.place c.len part still.known in
            let given = sum_of c.sum sum bytes is two.1 in
            let right = sum_right c.sum sum part is still.right in
            let parts = ap (λ o. parts_of_content o (c ∷ [])) still.content in
            let hashed = hashed_here c place n bytes sum one.0 one.1 is in
            let lists = subst
            (λ xs. SumsTellApart (xs ++ hashed_of_chunk c place n bytes)) parts apart in
            let both = subst (λ ys. SumsTellApart ((part ∷ []) ++ ys)) hashed lists in
            both part bytes (contains_first part (bytes ∷ [])) (Contains-append_right (part ∷ []) (bytes ∷ []) bytes (contains_first bytes []))
            (whole ∙ sym len) (sym right ∙ given)

    part_at : (b : Bfid) (c : Chunk) (bytes : List ℕ) → ReadIs j.history.contents b.0 c bytes → ReadFits j.history.contents b.0 c.offset bytes
    part_at b c bytes r = λ whole content.
        let one : r.whole ≡ whole = same_row (map.get j.history.contents b.0) r.whole whole r.content content in
        let within = r.within in
        let len = r.len in
        subst (λ xs. PartAt xs c.offset bytes) one
        (record { within = omega (arith, within, len); part = ap (λ n. part_of r.whole c.offset n) r.len ∙ r.part })

    -- what the mount is the source of is that chunk
    source_fits : (job : ℕ) (b : Bfid) (c : Chunk) (bytes : List ℕ) → x.origin ≡ origin.Source job b c → ReadIs j.history.contents b.0 c bytes
        → SourceFits j.history.contents s m bytes
    source_fits job b c bytes made r = λ i y is mine.
        let k = own.moves.moving i y is in
        let row : k.source ≡ x = same_row (map.get s.mounts m) k.source x (ap (map.get s.mounts) (sym mine) ∙ k.source_is) mount in
        let one : origin.Source job b c ≡ origin.Source i y.bfid y.from =
        sym made ∙ ap (λ (z : MountState). z.origin) (sym row) ∙ k.source_for in
        let bfid : b ≡ y.bfid = cc in
        let chunk : c ≡ y.from = cc in
        subst (λ (d : Bfid). ReadPart j.history.contents d.0 y.from bytes) bfid
        (subst (λ (d : Chunk). ReadPart j.history.contents b.0 d bytes) chunk
        (record { whole = r.whole; content = r.content; len = r.len; part = r.part }))

    read_kept : (place n : ℕ) (bytes : List ℕ) (made : Origin) → x.origin ≡ made
        → OriginKept s.group.conf s.group.reservations s.copies s.group.moves s.group.reuses m x.vsn made
        → MountOnce j.history.contents s.group.tables.volumes s.images s.group.reservations s.group.moves x.epoch made
        → MayRead made x.bound → nat_eq (length bytes) n ≡ true → (not x.bound || agrees_with_known image.known place bytes) ≡ true
        → SumsTellApart (parts_of_origin j.history.contents made ++ hashed_of_read made place n bytes)
        → InvariantHolds (after_mark w (read_mark g m place n bytes made) j)
    read_kept place n bytes (origin.New listed format) is k once reads long agree apart = kept
    read_kept place n bytes (origin.Piece b index p chunk) is k once reads long agree apart = kept
    read_kept place n bytes (origin.Chunk b c) is k once reads long agree apart =
        elim (is_read_of c place n bytes) as (λ t. is_read_of c place n bytes ≡ t
        → InvariantHolds (after_mark w (cond t (mark.Read g b c.offset bytes) mark.Nothing) j)) [
          | true ↦ λ counts.
              read_keeps j kept w g b c.offset bytes
              (part_at b c bytes (read_is b c place n bytes k once reads counts long agree apart))
          | false ↦ λ other. kept
        ] refl
    read_kept place n bytes (origin.Source job b c) is k once reads long agree apart =
        elim (is_read_of c place n bytes) as (λ t. is_read_of c place n bytes ≡ t
        → InvariantHolds (after_mark w (cond t (mark.Source g m bytes) mark.Nothing) j)) [
          | true ↦ λ counts.
              mark_keeps j kept g s side w (mark.Source g m bytes) refl tt
              (side_source_read j.daemon.tables.entries j.history.contents j.history.taken j.daemon.requests g.0 (committed_in done) (deleted_in done) s
              m bytes (source_fits job b c bytes is (read_is b c place n bytes k.volume once reads counts long agree apart)) own g)
          | false ↦ λ other. kept
        ] refl
    read_kept place n bytes (origin.Target job b total c version) is k once reads long agree apart = kept
    read_kept place n bytes (origin.Reuse next_epoch version reading) is k once reads long agree apart = kept

  -- a read that fails leaves all as it was
  read_failed : (m place n : ℕ) (bytes : List ℕ) (made : Origin) → InvariantHolds (after_failed_mark (read_mark g m place n bytes made) j)
  read_failed m place n bytes (origin.New listed format) = kept
  read_failed m place n bytes (origin.Piece b index p chunk) = kept
  read_failed m place n bytes (origin.Chunk b c) =
      elim (is_read_of c place n bytes) as (λ t. InvariantHolds (after_failed_mark (cond t (mark.Read g b c.offset bytes) mark.Nothing) j)) [
        | true ↦ kept
        | false ↦ kept
      ]
  read_failed m place n bytes (origin.Source job b c) =
      elim (is_read_of c place n bytes) as (λ t. InvariantHolds (after_failed_mark (cond t (mark.Source g m bytes) mark.Nothing) j)) [
        | true ↦ failed_mark_keeps j kept g s side (mark.Source g m bytes) refl own
        | false ↦ kept
      ]
  read_failed m place n bytes (origin.Target job b total c version) = kept
  read_failed m place n bytes (origin.Reuse next_epoch version reading) = kept

  -- ---- calls

  -- nothing comes into doubt by a call on a volume
  undoubted : (far : Bool) (k : Joint) → InvariantHolds k → InvariantHolds (joint_with_doubt (cond far None None) k)
  undoubted true k keeps = keeps
  undoubted false k keeps = keeps

  -- the bytes of the read and its part, under the mount that is open
  under : (o : Option MountState) (x : MountState) (place n : ℕ) (bytes : List ℕ) → o ≡ Some x
      → SumsTellApart (parts_under j.history.contents o ++ hashed_under o place n bytes)
      → SumsTellApart (parts_of_origin j.history.contents x.origin ++ hashed_of_read x.origin place n bytes)
  under o x place n bytes is apart = subst (λ p. SumsTellApart (parts_under j.history.contents p ++ hashed_under p place n bytes)) is apart

  module _ (vsn : Vsn) where
    answered_at : (c : VolumeCall) (o : Option Image) (p : Option MountState) → map.get s.images vsn.0 ≡ o → map.get s.mounts (mount_in c) ≡ p
        → SumsTellApart (parts_on_volume j.history.contents s c ++ hashed_on_volume s c)
        → AllHold (guards_of (refusal_of (volume_plan g vsn o p c)) (volume_plan g vsn o p c) (volume_needs vsn p c))
        → InvariantHolds (after_call w (prepared_plan (volume_plan g vsn o p c)) j)
    answered_at c None None there mount apart legal = let f = legal.0 in absurd (cc)
    answered_at c None (Some x) there mount apart legal = let f = legal.0 in absurd (cc)
    answered_at c (Some image) None there mount apart legal = let f = legal.0 in absurd (cc)
    answered_at (call.WriteZone m place zone) (Some image) (Some x) there mount apart legal =
        zone_kept vsn image x m there mount (texts_equal x.vsn.0 vsn.0 legal.0) place zone x.epoch x.origin (own.mounts.origin m x mount) legal.1.0
    answered_at (call.ReadChunk m place n bytes) (Some image) (Some x) there mount apart legal =
        read_kept vsn image x m there mount (texts_equal x.vsn.0 vsn.0 legal.1.0) place n bytes x.origin refl (own.mounts.origin m x mount)
        (own.once m x mount) (own.mounts.reads m x mount) legal.1.1.1.0 legal.1.1.1.1.0 (under (map.get s.mounts m) x place n bytes mount apart)
    answered_at (call.Relabel m epoch version) (Some image) (Some x) there mount apart legal =
        let long = label_long vsn image x m there mount (texts_equal x.vsn.0 vsn.0 legal.0) epoch version legal.1.0 in
        mark_keeps j kept g s side w (mark.Label g vsn m epoch version (label vsn.0 g.0 version epoch image.size)) refl tt
        (side_labelled j.daemon.tables.entries j.history.contents j.history.taken j.daemon.requests g.0 (committed_in done) (deleted_in done) s g vsn m
        epoch version (label vsn.0 g.0 version epoch image.size) long own)

    failed_at : (c : VolumeCall) (o : Option Image) (p : Option MountState) → map.get s.images vsn.0 ≡ o → map.get s.mounts (mount_in c) ≡ p
        → AllHold (guards_always (volume_plan g vsn o p c) (volume_needs vsn p c)) → (far : Bool)
        → InvariantHolds (after_fault w (prepared_plan (volume_plan g vsn o p c)) far j)
    failed_at c None None there mount legal far = let f = legal.0 in absurd (cc)
    failed_at c None (Some x) there mount legal far = let f = legal.0 in absurd (cc)
    failed_at c (Some image) None there mount legal far = let f = legal.0 in absurd (cc)
    failed_at (call.WriteZone m place zone) (Some image) (Some x) there mount legal far =
        undoubted far (after_failed_mark (zone_mark g vsn m place zone x.epoch x.origin) j)
        (zone_failed vsn image x m there mount (texts_equal x.vsn.0 vsn.0 legal.0) place zone x.epoch x.origin (own.mounts.origin m x mount) legal.1.0)
    failed_at (call.ReadChunk m place n bytes) (Some image) (Some x) there mount legal far =
        undoubted far (after_failed_mark (read_mark g m place n bytes x.origin) j) (read_failed m place n bytes x.origin)
    failed_at (call.Relabel m epoch version) (Some image) (Some x) there mount legal far =
        let long = label_long vsn image x m there mount (texts_equal x.vsn.0 vsn.0 legal.0) epoch version legal.1.0 in
        let made = mark.Label g vsn m epoch version (label vsn.0 g.0 version epoch image.size) in
        undoubted far (after_failed_mark made j)
        (failed_mark_keeps j kept g s side made refl
        (side_label_failed j.daemon.tables.entries j.history.contents j.history.taken j.daemon.requests g.0 (committed_in done) (deleted_in done) s g vsn
        m epoch version (label vsn.0 g.0 version epoch image.size) long own))

    -- each legal call on the volume, where the bytes that it read and their part tell apart
    pub volume_answered : (c : VolumeCall) → SumsTellApart (parts_on_volume j.history.contents s c ++ hashed_on_volume s c)
        → AllHold (guards_of (refusal_of (volume_plan g vsn (map.get s.images vsn.0) (map.get s.mounts (mount_in c)) c))
        (volume_plan g vsn (map.get s.images vsn.0) (map.get s.mounts (mount_in c)) c) (volume_needs vsn (map.get s.mounts (mount_in c)) c))
        → InvariantHolds (after_call w (prepared_plan (volume_plan g vsn (map.get s.images vsn.0) (map.get s.mounts (mount_in c)) c)) j)
    volume_answered c apart legal = answered_at c (map.get s.images vsn.0) (map.get s.mounts (mount_in c)) refl refl apart legal

    -- and one that fails
    pub volume_failed : (c : VolumeCall)
        → AllHold (guards_always (volume_plan g vsn (map.get s.images vsn.0) (map.get s.mounts (mount_in c)) c)
        (volume_needs vsn (map.get s.mounts (mount_in c)) c)) → (far : Bool)
        → InvariantHolds (after_fault w (prepared_plan (volume_plan g vsn (map.get s.images vsn.0) (map.get s.mounts (mount_in c)) c)) far j)
    volume_failed c legal far = failed_at c (map.get s.images vsn.0) (map.get s.mounts (mount_in c)) refl refl legal far
