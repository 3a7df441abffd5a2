-- What a call on a volume writes is no place of a chunk that was once live.
use Rattle.std.proofs.Common.{◌≡◌, ℕ, ◌+◌, ◌≤◌, ◌<◌, Bool, true, false, cond, ◌&&◌, nat_eq, Some, List, [], ◌∷◌, length, refl, sym, ap, subst, ◌∙◌, arith}
use Rattle.std.proofs.lemmas.Bool.{and_parts, eqb-true}
use Rattle.std.specs.FinMap as map
use Rattle.dm_base.specs.declared.conf.GroupConf.{GroupConf}
use Rattle.dm_base.specs.declared.identifier.Bfid.{Bfid}
use Rattle.dm_base.specs.declared.identifier.GroupId.{GroupId}
use Rattle.dm_base.specs.declared.serial.Vsn.{Vsn}
use Rattle.dm_base.specs.declared.volume.Chunk.{Chunk}
use Rattle.dm_base.specs.declared.volume.Piece.{Piece}
use Rattle.dm_rules.specs.Label.{first_zone, label}
use Rattle.dm_rules.specs.Zone.{weight, zone_length}
use Rattle.dm_durable.specs.declared.group.VolumeRow.{VolumeRow}
use Rattle.dm_durable.specs.Tables.{ByNumber, same_text}
use Rattle.dm_model.specs.declared.plan.Mark.{Mark}
use Rattle.dm_model.specs.declared.plan.Mark.TheVariants as mark
use Rattle.dm_model.specs.declared.state.Joint.{Joint}
use Rattle.dm_model.specs.declared.state.MountState.{MountState}
use Rattle.dm_model.specs.declared.state.Origin.{Origin}
use Rattle.dm_model.specs.declared.state.Origin.TheVariants as origin
use Rattle.dm_model.specs.declared.state.Side.{Side}
use Rattle.dm_model.specs.VolumeCalls.{is_planned_label, is_read_of, is_zone_place, read_mark, zone_mark}
use Rattle.dm_invariant.specs.Kept.{InvariantHolds, SideKept, committed_in, deleted_in}
use Rattle.dm_invariant.specs.Mounts.{OriginKept, PieceMount, TargetMount}
use Rattle.dm_invariant.specs.OnceLive.{StillThere}
use Rattle.dm_invariant.specs.Volumes.{ConfFits, IsOfConf}
use Rattle.dm_invariant.proofs.Lists.{passing}
use Rattle.dm_invariant.proofs.Texts.{texts_equal}
use Rattle.dm_landing.proofs.VolumesOnward.{piece_among}
use Rattle.dm_effects.proofs.ImagesChanged.{Spares}
use Rattle.dm_once.proofs.OnceParts.{MarksRight}

-- ---- a label

length_label : (vsn : List ℕ) (group version epoch size : ℕ) → length vsn ≡ 6 → length (label vsn group version epoch size) ≡ first_zone
unfolding label
length_label (s ∷ t ∷ u ∷ v ∷ w ∷ x ∷ []) group version epoch size six = refl
length_label [] group version epoch size six = absurd (omega arith)
length_label (s ∷ []) group version epoch size six = absurd (omega arith)
length_label (s ∷ t ∷ []) group version epoch size six = absurd (omega arith)
length_label (s ∷ t ∷ u ∷ []) group version epoch size six = absurd (omega arith)
length_label (s ∷ t ∷ u ∷ v ∷ []) group version epoch size six = absurd (omega arith)
length_label (s ∷ t ∷ u ∷ v ∷ w ∷ []) group version epoch size six = absurd (omega arith)
length_label (s ∷ t ∷ u ∷ v ∷ w ∷ x ∷ y ∷ vsn) group version epoch size six = absurd (omega arith)

six_characters : (conf : GroupConf) (vsn : List ℕ) → ConfFits conf → IsOfConf conf vsn → length vsn ≡ 6
six_characters conf vsn fits is =
    let v = passing (λ (v : Vsn). same_text v.0 vsn) conf.volumes is in
    ap length (sym (texts_equal v.0.0 vsn v.2)) ∙ (fits.serials v.0 v.1).six

module _ (contents : ByNumber (List ℕ)) (g0 epoch b : ℕ) (c : Chunk) (j : Joint) (kept : InvariantHolds j) (g : GroupId) (s : Side)
    (side : map.get j.sides g.0 ≡ Some s) (vsn : Vsn) (x : MountState) (m : ℕ) (mount : map.get s.mounts m ≡ Some x) (on : x.vsn.0 ≡ vsn.0) where
  abbrev K : SideKept j.daemon.tables.entries j.history.contents j.history.taken j.daemon.requests g.0 (committed_in (map.get j.history.groups g.0))
      (deleted_in (map.get j.history.groups g.0)) s
  K = kept.sides g.0 s side

  -- a chunk that is still there
  abbrev There : VolumeRow → Type 0
  There v = StillThere contents s.images s.group.reservations s.group.moves v b c

  zone_spares : (place : ℕ) (zone : List ℕ) (index chunk : ℕ) (d : Bfid) (p : Piece)
      → PieceMount s.group.reservations s.copies m d.0 index p chunk x.vsn
      → (nat_eq place p.zone && nat_eq (length zone) (zone_length p.version chunk p.len)) ≡ true → (v : VolumeRow) → There v
      → Spares vsn.0 place (length zone) c
  zone_spares place zone index chunk d p k at v still = λ q covers low high.
      let parts = and_parts (nat_eq place p.zone) (nat_eq (length zone) (zone_length p.version chunk p.len)) at in
      let here = eqb-true place p.zone parts.0 in
      let long = eqb-true (length zone) (zone_length p.version chunk p.len) parts.1 ∙ ap (λ n. zone_length p.version n p.len) (sym k.cut) in
      let below : q < p.zone + zone_length p.version k.reserved.chunk p.len =
      subst (λ n. q < p.zone + n) long (subst (λ n. q < n + length zone) here high) in
      still.beside_kept k.held.number p.offset q (record { same = refl; low = covers.low; high = covers.high }) (record {
        reserved = k.reserved;
        is = k.there;
        piece = p;
        among = piece_among index k.reserved.pieces p k.piece;
        at = refl;
        covers = record {
          same = ap (λ (u : Vsn). u.0) k.volume ∙ on ∙ sym covers.same;
          low = subst (λ n. n ≤ q) here low;
          high = below;
        };
      })

  target_spares : (place : ℕ) (zone : List ℕ) (job : ℕ) (d : Bfid) (total : ℕ) (e : Chunk) (version : ℕ)
      → TargetMount s.group.moves m job d total e version x.vsn
      → (nat_eq place e.zone && nat_eq (length zone) (weight version e.len)) ≡ true → (v : VolumeRow) → There v → Spares vsn.0 place (length zone) c
  target_spares place zone job d total e version k at v still = λ q covers low high.
      let parts = and_parts (nat_eq place e.zone) (nat_eq (length zone) (weight version e.len)) at in
      let here : place ≡ k.moving.to.zone = eqb-true place e.zone parts.0 ∙ ap (λ (y : Chunk). y.zone) (sym k.to) in
      let long : length zone ≡ weight k.moving.version k.moving.to.len =
      eqb-true (length zone) (weight version e.len) parts.1 ∙ ap (λ n. weight n e.len) (sym k.same)
      ∙ ap (λ (y : Chunk). weight k.moving.version y.len) (sym k.to) in
      let below : q < k.moving.to.zone + weight k.moving.version k.moving.to.len =
      subst (λ n. q < k.moving.to.zone + n) long (subst (λ n. q < n + length zone) here high) in
      still.beside_targets job q (record { same = refl; low = covers.low; high = covers.high }) (record {
        moving = k.moving;
        is = k.is;
        covers = record {
          same = ap (λ (y : Chunk). y.vsn.0) k.to ∙ ap (λ (u : Vsn). u.0) k.volume ∙ on ∙ sym covers.same;
          low = subst (λ n. n ≤ q) here low;
          high = below;
        };
      })

  -- the side at hand is the one of the group
  abbrev AtSide : Mark → Type 0
  AtSide y = MarksRight contents g0 epoch b c g.0 s y

  pub zone_right : (place : ℕ) (zone : List ℕ) (e : ℕ) (made : Origin)
      → OriginKept s.group.conf s.group.reservations s.copies s.group.moves s.group.reuses m x.vsn made
      → is_zone_place made place (length zone) ≡ true → AtSide (zone_mark g vsn m place zone e made)
  zone_right place zone e (origin.New listed format) k at = tt
  zone_right place zone e (origin.Piece d index p chunk) k at = zone_spares place zone index chunk d p k at
  zone_right place zone e (origin.Chunk d f) k at = tt
  zone_right place zone e (origin.Source job d f) k at = tt
  zone_right place zone e (origin.Target job d total f version) k at = target_spares place zone job d total f version k at
  zone_right place zone e (origin.Reuse next_epoch version reading) k at = tt

  -- ---- a label

  planned_configured : (e version : ℕ) (made : Origin)
      → OriginKept s.group.conf s.group.reservations s.copies s.group.moves s.group.reuses m x.vsn made → is_planned_label made e version ≡ true
      → IsOfConf s.group.conf x.vsn.0
  planned_configured e version (origin.New listed format) k at = k.configured
  planned_configured e version (origin.Piece d index p chunk) k at = absurd (cc)
  planned_configured e version (origin.Chunk d f) k at = absurd (cc)
  planned_configured e version (origin.Source job d f) k at = absurd (cc)
  planned_configured e version (origin.Target job d total f v) k at = absurd (cc)
  planned_configured e version (origin.Reuse next_epoch v reading) k at =
      let r = K.reuses m k.reusing k.is in
      subst (λ (q : Vsn). IsOfConf s.group.conf q.0) k.volume (K.volumes.volume k.reusing.vsn.0 r.volume r.known).configured

  pub label_right : (e version size : ℕ) → is_planned_label x.origin e version ≡ true
      → AtSide (mark.Label g vsn m e version (label vsn.0 g.0 version e size))
  label_right e version size at = λ v still q covers low high.
      let of = planned_configured e version x.origin (K.mounts.origin m x mount) at in
      let long = length_label vsn.0 g.0 version e size (ap length (sym on) ∙ six_characters s.group.conf x.vsn.0 K.volumes.fits of) in
      let behind = still.behind in
      let from = covers.low in
      omega (arith, long, behind, from, high)

  -- ---- a read

  read_if : (y : Mark) (counts : Bool) → AtSide y → AtSide (cond counts y mark.Nothing)
  read_if y true right = right
  read_if y false right = tt

  pub read_right : (place n : ℕ) (bytes : List ℕ) (made : Origin) → AtSide (read_mark g m place n bytes made)
  read_right place n bytes (origin.New listed format) = tt
  read_right place n bytes (origin.Piece d index p chunk) = tt
  read_right place n bytes (origin.Chunk d f) = read_if (mark.Read g d f.offset bytes) (is_read_of f place n bytes) tt
  read_right place n bytes (origin.Source job d f) = read_if (mark.Source g m bytes) (is_read_of f place n bytes) tt
  read_right place n bytes (origin.Target job d total f version) = tt
  read_right place n bytes (origin.Reuse next_epoch version reading) = tt
