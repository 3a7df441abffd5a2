-- The zone of a chunk that is moved is written, or its write fails: a side is kept, since no other has a place of the zone.
use Rattle.std.proofs.Common.{◌≡◌, ◌≢◌, arith, ℕ, ◌+◌, ◌≤◌, ◌<◌, IsSome, List, Some, None, Option, length, refl, sym, ap, ◌∙◌, inl, inr, subst}
use Rattle.std.specs.FinMap as map
use Rattle.dm_base.specs.declared.identifier.GroupId.{GroupId}
use Rattle.dm_base.specs.declared.serial.Vsn.{Vsn}
use Rattle.dm_base.specs.declared.volume.Chunk.{Chunk}
use Rattle.dm_rules.specs.Known.{known_without_range, known_bytes, known_with_write}
use Rattle.dm_rules.specs.Zone.{weight}
use Rattle.dm_tables.specs.Rows.{adjust}
use Rattle.dm_tables.proofs.Orders.{numbers}
use Rattle.dm_tables.proofs.Adjusted.{adjusted}
use Rattle.dm_durable.specs.declared.daemon.Entry.{Entry}
use Rattle.dm_durable.specs.Tables.{ByName, ByNumber}
use Rattle.dm_model.specs.declared.plan.Mark.TheVariants as mark
use Rattle.dm_model.specs.declared.state.Image.{Image}
use Rattle.dm_model.specs.declared.state.MountState.{MountState}
use Rattle.dm_model.specs.declared.state.Moving.{Moving}
use Rattle.dm_model.specs.declared.state.OpenRequest.{OpenRequest}
use Rattle.dm_model.specs.declared.state.Side.{Side}
use Rattle.dm_model.specs.SideShare.{known_by, side_after_failed_mark, side_after_mark}
use Rattle.dm_invariant.specs.Assemble.{known_on}
use Rattle.dm_invariant.specs.Kept.{SideKept}
use Rattle.dm_invariant.specs.Moves.{ReadRight, TargetWritten, WrittenRight}
use Rattle.dm_invariant.specs.Places.{Doubted, HasTarget, Reserving, Live, Owner, Target}
use Rattle.dm_invariant.proofs.DoubtedZones.{doubt_in_hand, zone_covers}
use Rattle.dm_invariant.proofs.Options.{same_row}
use Rattle.dm_landing.proofs.VolumesOnward.{piece_among}
use Rattle.dm_effects.proofs.Copies.{copies_same}
use Rattle.dm_effects.proofs.ImagesChanged.{AllWritten, HeldLike, KnownBeside, SparesChunks, image_forgotten, image_written, like_itself, mount_changed, range_beside, side_beside}
use Rattle.dm_effects.proofs.MoveEnded.{job_of}
use Rattle.dm_effects.proofs.SourceMarked.{all_written, reads_right, writes_right}
use Rattle.dm_effects.proofs.ZoneMarked.{known_here}

-- the zone is that of the chunk that a move has this mount for, on its volume
pub record TargetFits (s : Side) (vsn : List ℕ) (m place : ℕ) (zone : List ℕ) : Type 0 where
  pub job : ℕ
  pub moving : Moving
  pub is : map.get s.group.moves job ≡ Some moving
  pub mine : moving.target ≡ m
  pub volume : moving.to.vsn.0 ≡ vsn
  pub stands : moving.to.zone ≡ place
  pub len : length zone ≡ weight moving.version moving.to.len
  pub image : IsSome (map.get s.images vsn)

abbrev written_as : Option (List ℕ) → MountState → MountState
written_as zone x = record x { written = zone }

-- the job of an owner that is the zone of a moved chunk
abbrev job_of_owner : Owner → ℕ → ℕ
job_of_owner (Live b offset) other = other
job_of_owner (Reserving n offset) other = other
job_of_owner (Target job) other = job
job_of_owner (Doubted zone) other = other

module _ (entries : ByNumber Entry) (contents : ByNumber (List ℕ)) (taken : ByNumber (Unit {0})) (requests : ByNumber OpenRequest)
    (g : ℕ) (committed deleted : ByNumber (Unit {0})) (s : Side) (vsn : List ℕ) (m place : ℕ) (zone : List ℕ)
    (fits : TargetFits s vsn m place zone) (kept : SideKept entries contents taken requests g committed deleted s) where
  zone_has : (q : ℕ) → place ≤ q → q < place + length zone → HasTarget s.group.moves fits.job vsn q
  zone_has q low high = record {
    moving = fits.moving;
    is = fits.is;
    covers =
        let stands = fits.stands in
        let len = fits.len in
        record { same = fits.volume; low = omega (arith, stands, low); high = omega (arith, stands, len, high) };
  }

  zone_spared : SparesChunks contents s vsn place (length zone)
  zone_spared = record {
    live = λ c row is d among q covers low high.
        let e = kept.places (Live c d.offset) (Target fits.job) vsn q
        (record { row = row; is = is; chunk = d; among = among; at = refl; covers = covers }) (zone_has q low high) in cc;
    once = λ v c d there q covers low high. there.beside_targets fits.job q (record { same = refl; low = covers.low; high = covers.high })
        (subst (λ u. HasTarget s.group.moves fits.job u q) (sym covers.same) (zone_has q low high));
    doubted = λ d is q covers low high.
        let hand = doubt_in_hand g entries contents taken deleted s s.group.doubt kept.doubt d is in
        let covered = zone_covers s.group.tables.volumes s.group.tips d vsn q hand covers in
        let e = kept.places (Doubted d.zone) (Target fits.job) vsn q
        (record { chunk = d; among = is; at = refl; covers = covered }) (zone_has q low high) in cc;
  }

  -- a move has this mount as its target only where it is the one
  own_job : (job : ℕ) (x : Moving) → map.get s.group.moves job ≡ Some x → x.target ≡ m → job ≡ fits.job
  own_job job x is same =
      let k = kept.moves.moving job x is in
      let mine = kept.moves.moving fits.job fits.moving fits.is in
      let row = same_row (map.get s.mounts m) k.target mine.target (ap (map.get s.mounts) (sym same) ∙ k.target_is)
      (ap (map.get s.mounts) (sym fits.mine) ∙ mine.target_is) in
      sym (ap (λ o. job_of o 0) k.target_for) ∙ ap (λ (y : MountState). job_of y.origin 0) row ∙ ap (λ o. job_of o 0) mine.target_for

  own_moving : (job : ℕ) (x : Moving) → map.get s.group.moves job ≡ Some x → job ≡ fits.job → x ≡ fits.moving
  own_moving job x is same = same_row (map.get s.group.moves fits.job) x fits.moving (ap (map.get s.group.moves) (sym same) ∙ is) fits.is

  module _ (images : ByName Image) (beside : KnownBeside vsn place (length zone) s.images images) where
    -- what was written of a reservation's pieces is no part of the zone
    pieces_written : AllWritten s.group.reservations images s.copies
    pieces_written n r c held is there has = λ index w put p at.
        let was = all_written entries contents taken requests g committed deleted s kept n r c held is there has index w put p at in
        let len = was.len in
        record {
          len = was.len;
          known = range_beside vsn place (length zone) s.images images p.vsn.0 p.zone (length w.zone) beside (λ q same from below low high.
              let e = kept.places (Reserving n p.offset) (Target fits.job) vsn q
              (record {
                reserved = r;
                is = is;
                piece = p;
                among = piece_among index r.pieces p at;
                at = refl;
                covers = record { same = same; low = from; high = subst (λ l. q < p.zone + l) len below };
              })
              (zone_has q low high) in cc) ∙ was.known;
        }

    -- nor is what was written of another moved chunk
    other_target : (job : ℕ) (x : Moving) (o : Option (List ℕ)) → map.get s.group.moves job ≡ Some x → job ≢ fits.job
        → WrittenRight s.images x.version x.to o → WrittenRight images x.version x.to o
    other_target job x None is differ k = k
    other_target job x (Some z) is differ k =
        let len = k.len in
        record {
          len = k.len;
          known = range_beside vsn place (length zone) s.images images x.to.vsn.0 x.to.zone (length z) beside (λ q same from below low high.
              let e = kept.places (Target job) (Target fits.job) vsn q
              (record { moving = x; is = is; covers = record { same = same; low = from; high = subst (λ l. q < x.to.zone + l) len below } })
              (zone_has q low high) in
              differ (ap (λ o. job_of_owner o 0) e)) ∙ k.known;
        }

    module _ (bytes : Option (List ℕ)) (right : WrittenRight images fits.moving.version fits.moving.to bytes) where
      read_after : (job : ℕ) (x : Moving) (y : MountState) → map.get s.group.moves job ≡ Some x
          → map.get (adjust s.mounts m (written_as bytes)) x.source ≡ Some y → ReadRight contents x.bfid.0 x.from y.read
      read_after job x y is at =
          elim (adjusted numbers s.mounts m (written_as bytes) x.source y at) [
            | inl here ↦ subst (λ (z : MountState). ReadRight contents x.bfid.0 x.from z.read) (sym here.1.2)
                (reads_right entries contents taken requests g committed deleted s kept job x here.1.0 is (ap (map.get s.mounts) here.0 ∙ here.1.1))
            | inr other ↦ reads_right entries contents taken requests g committed deleted s kept job x y is other.1
          ]

      written_after : (job : ℕ) (x : Moving) (y : MountState) → map.get s.group.moves job ≡ Some x
          → map.get (adjust s.mounts m (written_as bytes)) x.target ≡ Some y → WrittenRight images x.version x.to y.written
      written_after job x y is at =
          elim (adjusted numbers s.mounts m (written_as bytes) x.target y at) [
            | inl here ↦ subst (λ (z : MountState). WrittenRight images x.version x.to z.written) (sym here.1.2)
                (subst (λ (z : Moving). WrittenRight images z.version z.to bytes) (sym (own_moving job x is (own_job job x is here.0))) right)
            | inr other ↦ other_target job x y.written is
                (λ same. other.0 (ap (λ (z : Moving). z.target) (own_moving job x is same) ∙ fits.mine))
                (writes_right entries contents taken requests g committed deleted s kept job x y is other.1)
          ]

      target_marked : SideKept entries contents taken requests g committed deleted
          (record s { images = images; mounts = adjust s.mounts m (written_as bytes) })
      target_marked =
          side_beside entries contents taken requests g committed deleted vsn place (length zone) s images s.copies
          (adjust s.mounts m (written_as bytes)) beside (copies_same HeldLike like_itself s.copies)
          (mount_changed (written_as bytes) s.mounts m (λ x. record { vsn = refl; epoch = refl; origin = refl; bound = refl })) zone_spared pieces_written
          (record { read = read_after; written = written_after }) kept

-- the zone of a moved chunk is written: the side is kept
pub side_target_written : (entries : ByNumber Entry) (contents : ByNumber (List ℕ)) (taken : ByNumber (Unit {0})) (requests : ByNumber OpenRequest)
    (g : ℕ) (committed deleted : ByNumber (Unit {0})) (s : Side) (h : GroupId) (vsn : Vsn) (m place : ℕ) (zone : List ℕ)
    → TargetFits s vsn.0 m place zone
    → SideKept entries contents taken requests g committed deleted s
    → SideKept entries contents taken requests g committed deleted (side_after_mark (mark.Target h vsn m place zone) s)
side_target_written entries contents taken requests g committed deleted s h vsn m place zone fits kept =
    let images = adjust s.images vsn.0 (known_by (known_with_write place zone)) in
    target_marked entries contents taken requests g committed deleted s vsn.0 m place zone fits kept images
    (image_written vsn.0 place zone s.images) (Some zone)
    (record {
      len = fits.len;
      known = ap (λ v. known_bytes (known_on images v) fits.moving.to.zone (length zone)) fits.volume
          ∙ ap (λ q. known_bytes (known_on images vsn.0) q (length zone)) fits.stands ∙ known_here vsn.0 place zone s.images fits.image;
    })

-- also where the write of the zone fails
pub side_target_failed : (entries : ByNumber Entry) (contents : ByNumber (List ℕ)) (taken : ByNumber (Unit {0})) (requests : ByNumber OpenRequest)
    (g : ℕ) (committed deleted : ByNumber (Unit {0})) (s : Side) (h : GroupId) (vsn : Vsn) (m place : ℕ) (zone : List ℕ)
    → TargetFits s vsn.0 m place zone
    → SideKept entries contents taken requests g committed deleted s
    → SideKept entries contents taken requests g committed deleted (side_after_failed_mark (mark.Target h vsn m place zone) s)
side_target_failed entries contents taken requests g committed deleted s h vsn m place zone fits kept =
    target_marked entries contents taken requests g committed deleted s vsn.0 m place zone fits kept
    (adjust s.images vsn.0 (known_by (known_without_range place (length zone)))) (image_forgotten vsn.0 place (length zone) s.images) None tt
