-- The label of a volume is written, or its write fails: a side is kept, since all else lies behind the label.
use Rattle.std.proofs.Common.{◌≡◌, arith, ℕ, ◌≤◌, ◌<◌, List, Some, None, Option, length, refl, sym, ap, ◌∙◌, inl, inr, subst}
use Rattle.std.specs.FinMap as map
use Rattle.dm_base.specs.declared.identifier.GroupId.{GroupId}
use Rattle.dm_base.specs.declared.serial.Vsn.{Vsn}
use Rattle.dm_base.specs.declared.volume.Chunk.{Chunk}
use Rattle.dm_rules.specs.Known.{known_without_range, known_with_write}
use Rattle.dm_rules.specs.Label.{first_zone}
use Rattle.dm_tables.specs.Rows.{adjust}
use Rattle.dm_tables.proofs.Orders.{numbers}
use Rattle.dm_tables.proofs.Adjusted.{adjusted}
use Rattle.dm_durable.specs.declared.daemon.Entry.{Entry}
use Rattle.dm_durable.specs.declared.group.GroupRecord.{GroupRecord}
use Rattle.dm_durable.specs.declared.group.GroupStep.{GroupStep}
use Rattle.dm_durable.specs.declared.group.GroupStep.TheVariants.{Volume, Commit, Delete, Move, Free, Reuse}
use Rattle.dm_durable.specs.declared.group.GroupTables.{GroupTables}
use Rattle.dm_durable.specs.GroupConditions.{MayGroupStep}
use Rattle.dm_durable.specs.Tables.{ByName, ByNumber}
use Rattle.dm_model.specs.declared.plan.Mark.TheVariants as mark
use Rattle.dm_model.specs.declared.state.Image.{Image}
use Rattle.dm_model.specs.declared.state.Label.{Label}
use Rattle.dm_model.specs.declared.state.MountState.{MountState}
use Rattle.dm_model.specs.declared.state.Moving.{Moving}
use Rattle.dm_model.specs.declared.state.OpenRequest.{OpenRequest}
use Rattle.dm_model.specs.declared.state.Side.{Side}
use Rattle.dm_model.specs.SideShare.{known_by, side_after_failed_mark, side_after_mark}
use Rattle.dm_invariant.specs.Doubts.{GroupMayLandIf}
use Rattle.dm_invariant.specs.Kept.{SideKept}
use Rattle.dm_invariant.specs.Moves.{ReadRight, WrittenRight}
use Rattle.dm_invariant.specs.Places.{IsDoubted, IsPut}
use Rattle.dm_landing.proofs.VolumeChunkLists.{one_lies}
use Rattle.dm_landing.proofs.VolumesOnward.{piece_among}
use Rattle.dm_effects.proofs.Copies.{copies_same}
use Rattle.dm_effects.proofs.ImagesChanged.{AllWritten, HeldLike, KnownBeside, Spares, SparesChunks, image_forgotten, image_written, like_itself, mount_changed, range_beside, side_beside}
use Rattle.dm_effects.proofs.SourceMarked.{all_written, reads_right, writes_right}

abbrev labelled_as : Option Label → MountState → MountState
labelled_as label x = record x { labelled = label }

-- a chunk behind the label has no place of it
behind_spares : (vsn : List ℕ) (n : ℕ) (c : Chunk) → n ≡ first_zone → first_zone ≤ c.place → Spares vsn 0 n c
behind_spares vsn n c long behind = λ q covers low high. let from = covers.low in omega (arith, long, behind, from, high)

step_spares : (t : GroupTables) (vsn : List ℕ) (n : ℕ) (step : GroupStep) → n ≡ first_zone → MayGroupStep t step
    → (c : Chunk) → IsPut c step → Spares vsn 0 n c
step_spares t vsn n (Volume v slot version size) long may c put = absurd put
step_spares t vsn n (Commit b len chunks) long may c put = behind_spares vsn n c long (one_lies t.volumes chunks c may.stands.lies put).behind
step_spares t vsn n (Delete b) long may c put = absurd put
step_spares t vsn n (Move b from to) long may c put =
    behind_spares vsn n c long (subst (λ (d : Chunk). first_zone ≤ d.place) (sym put) may.lies.behind)
step_spares t vsn n (Free v) long may c put = absurd put
step_spares t vsn n (Reuse v epoch version) long may c put = absurd put

module _ (entries : ByNumber Entry) (contents : ByNumber (List ℕ)) (taken : ByNumber (Unit {0})) (requests : ByNumber OpenRequest)
    (g : ℕ) (committed deleted : ByNumber (Unit {0})) (s : Side) (vsn : List ℕ) (m n : ℕ) (label : Option Label) (images : ByName Image)
    (long : n ≡ first_zone) (beside : KnownBeside vsn 0 n s.images images)
    (kept : SideKept entries contents taken requests g committed deleted s) where
  doubt_spares : (doubt : Option GroupRecord) → GroupMayLandIf g entries contents taken deleted s doubt
      → (c : Chunk) → IsDoubted c doubt → Spares vsn 0 n c
  doubt_spares None may c put = absurd put
  doubt_spares (Some r) may c put = step_spares s.group.tables vsn n r.step long may.follow.step c put

  label_spared : SparesChunks contents s vsn 0 n
  label_spared = record {
    live = λ b row is c among. behind_spares vsn n c long ((kept.catalogue.bitfile b row is).lies c among).behind;
    once = λ v b c there. behind_spares vsn n c long there.behind;
    doubted = doubt_spares s.group.doubt kept.doubt;
  }

  -- zones lie there too
  written_behind : AllWritten s.group.reservations images s.copies
  written_behind k r c held is there has = λ index w put p at.
      let was = all_written entries contents taken requests g committed deleted s kept k r c held is there has index w put p at in
      let behind = ((kept.reservations.reservation k r is).zones p (piece_among index r.pieces p at)).behind in
      record {
        len = was.len;
        known = range_beside vsn 0 n s.images images p.vsn.0 p.zone (length w.zone) beside
            (λ q same from below low high. omega (arith, long, behind, from, high)) ∙ was.known;
      }

  target_behind : (job : ℕ) (x : Moving) (o : Option (List ℕ)) → map.get s.group.moves job ≡ Some x
      → WrittenRight s.images x.version x.to o → WrittenRight images x.version x.to o
  target_behind job x None is k = k
  target_behind job x (Some z) is k =
      let behind = (kept.moves.moving job x is).zone.behind in
      record {
        len = k.len;
        known = range_beside vsn 0 n s.images images x.to.vsn.0 x.to.zone (length z) beside
            (λ q same from below low high. omega (arith, long, behind, from, high)) ∙ k.known;
      }

  read_after : (job : ℕ) (x : Moving) (y : MountState) → map.get s.group.moves job ≡ Some x
      → map.get (adjust s.mounts m (labelled_as label)) x.source ≡ Some y → ReadRight contents x.bfid.0 x.from y.read
  read_after job x y is at =
      elim (adjusted numbers s.mounts m (labelled_as label) x.source y at) [
        | inl here ↦ subst (λ (z : MountState). ReadRight contents x.bfid.0 x.from z.read) (sym here.1.2)
            (reads_right entries contents taken requests g committed deleted s kept job x here.1.0 is (ap (map.get s.mounts) here.0 ∙ here.1.1))
        | inr other ↦ reads_right entries contents taken requests g committed deleted s kept job x y is other.1
      ]

  written_after : (job : ℕ) (x : Moving) (y : MountState) → map.get s.group.moves job ≡ Some x
      → map.get (adjust s.mounts m (labelled_as label)) x.target ≡ Some y → WrittenRight images x.version x.to y.written
  written_after job x y is at =
      elim (adjusted numbers s.mounts m (labelled_as label) x.target y at) [
        | inl here ↦ subst (λ (z : MountState). WrittenRight images x.version x.to z.written) (sym here.1.2)
            (target_behind job x here.1.0.written is
            (writes_right entries contents taken requests g committed deleted s kept job x here.1.0 is (ap (map.get s.mounts) here.0 ∙ here.1.1)))
        | inr other ↦ target_behind job x y.written is
            (writes_right entries contents taken requests g committed deleted s kept job x y is other.1)
      ]

  label_changed : SideKept entries contents taken requests g committed deleted
      (record s { images = images; mounts = adjust s.mounts m (labelled_as label) })
  label_changed =
      side_beside entries contents taken requests g committed deleted vsn 0 n s images s.copies (adjust s.mounts m (labelled_as label)) beside
      (copies_same HeldLike like_itself s.copies)
      (mount_changed (labelled_as label) s.mounts m (λ x. record { vsn = refl; epoch = refl; origin = refl; bound = refl })) label_spared written_behind
      (record { read = read_after; written = written_after }) kept

-- the label of a volume is written: the side is kept
pub side_labelled : (entries : ByNumber Entry) (contents : ByNumber (List ℕ)) (taken : ByNumber (Unit {0})) (requests : ByNumber OpenRequest)
    (g : ℕ) (committed deleted : ByNumber (Unit {0})) (s : Side) (h : GroupId) (vsn : Vsn) (m epoch version : ℕ) (text : List ℕ)
    → length text ≡ first_zone
    → SideKept entries contents taken requests g committed deleted s
    → SideKept entries contents taken requests g committed deleted (side_after_mark (mark.Label h vsn m epoch version text) s)
side_labelled entries contents taken requests g committed deleted s h vsn m epoch version text long kept =
    label_changed entries contents taken requests g committed deleted s vsn.0 m (length text) (Some (record { epoch = epoch; version = version }))
    (adjust s.images vsn.0 (known_by (known_with_write 0 text))) long (image_written vsn.0 0 text s.images) kept

-- also where the write of the label fails
pub side_label_failed : (entries : ByNumber Entry) (contents : ByNumber (List ℕ)) (taken : ByNumber (Unit {0})) (requests : ByNumber OpenRequest)
    (g : ℕ) (committed deleted : ByNumber (Unit {0})) (s : Side) (h : GroupId) (vsn : Vsn) (m epoch version : ℕ) (text : List ℕ)
    → length text ≡ first_zone
    → SideKept entries contents taken requests g committed deleted s
    → SideKept entries contents taken requests g committed deleted (side_after_failed_mark (mark.Label h vsn m epoch version text) s)
side_label_failed entries contents taken requests g committed deleted s h vsn m epoch version text long kept =
    label_changed entries contents taken requests g committed deleted s vsn.0 m (length text) None
    (adjust s.images vsn.0 (known_by (known_without_range 0 (length text)))) long (image_forgotten vsn.0 0 (length text) s.images) kept
