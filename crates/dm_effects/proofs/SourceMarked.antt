-- What was read of a chunk that is moved stays with its mount: a side is kept where it is the chunk's part of the content.
use Rattle.std.proofs.Common.{◌≡◌, arith, ℕ, List, [], Some, None, Option, option_map, length, refl, sym, ap, ◌∙◌, inl, inr, subst}
use Rattle.std.specs.FinMap as map
use Rattle.dm_base.specs.declared.identifier.GroupId.{GroupId}
use Rattle.dm_tables.specs.Rows.{adjust}
use Rattle.dm_tables.proofs.Orders.{numbers}
use Rattle.dm_tables.proofs.Adjusted.{adjusted}
use Rattle.dm_durable.specs.declared.daemon.Entry.{Entry}
use Rattle.dm_durable.specs.Tables.{ByNumber}
use Rattle.dm_model.specs.declared.plan.Mark.TheVariants as mark
use Rattle.dm_model.specs.declared.state.CopyReservation.{CopyReservation}
use Rattle.dm_model.specs.declared.state.CopyState.{CopyState}
use Rattle.dm_model.specs.declared.state.MountState.{MountState}
use Rattle.dm_model.specs.declared.state.Moving.{Moving}
use Rattle.dm_model.specs.declared.state.OpenRequest.{OpenRequest}
use Rattle.dm_model.specs.declared.state.Side.{Side}
use Rattle.dm_model.specs.SideShare.{side_after_mark}
use Rattle.dm_invariant.specs.Kept.{SideKept}
use Rattle.dm_invariant.specs.Moves.{ReadPart, ReadRight, WrittenRight}
use Rattle.dm_invariant.specs.Reservations.{ReservationKept}
use Rattle.dm_invariant.proofs.Options.{same_row}
use Rattle.dm_effects.proofs.Copies.{copies_same}
use Rattle.dm_effects.proofs.ImagesChanged.{AllWritten, HeldLike, MountLike, MovesRight, SparesChunks, images_same, like_itself, mount_changed, side_beside}

-- what was written of the pieces is known where the invariant holds
pub all_written : (entries : ByNumber Entry) (contents : ByNumber (List ℕ)) (taken : ByNumber (Unit {0})) (requests : ByNumber OpenRequest)
    (g : ℕ) (committed deleted : ByNumber (Unit {0})) (s : Side)
    → SideKept entries contents taken requests g committed deleted s → AllWritten s.group.reservations s.images s.copies
all_written entries contents taken requests g committed deleted s kept n r c held is there has =
    let k = kept.reservations.reservation n r is in
    let copy = same_row (map.get s.copies r.bfid.0) k.copy c k.is there in
    let same = same_row c.reservation k.held held (ap (λ (x : CopyState). x.reservation) (sym copy) ∙ k.has) has in
    λ index w put. k.written index w (ap (λ (h : CopyReservation). map.get h.written index) same ∙ put)

-- what was read of moved chunks is right
pub reads_right : (entries : ByNumber Entry) (contents : ByNumber (List ℕ)) (taken : ByNumber (Unit {0})) (requests : ByNumber OpenRequest)
    (g : ℕ) (committed deleted : ByNumber (Unit {0})) (s : Side)
    → SideKept entries contents taken requests g committed deleted s
    → (job : ℕ) (x : Moving) (y : MountState) → map.get s.group.moves job ≡ Some x → map.get s.mounts x.source ≡ Some y
    → ReadRight contents x.bfid.0 x.from y.read
reads_right entries contents taken requests g committed deleted s kept job x y is at =
    let k = kept.moves.moving job x is in
    let same = same_row (map.get s.mounts x.source) k.source y k.source_is at in
    subst (λ (z : MountState). ReadRight contents x.bfid.0 x.from z.read) same k.read

-- and what was written of them is known
pub writes_right : (entries : ByNumber Entry) (contents : ByNumber (List ℕ)) (taken : ByNumber (Unit {0})) (requests : ByNumber OpenRequest)
    (g : ℕ) (committed deleted : ByNumber (Unit {0})) (s : Side)
    → SideKept entries contents taken requests g committed deleted s
    → (job : ℕ) (x : Moving) (y : MountState) → map.get s.group.moves job ≡ Some x → map.get s.mounts x.target ≡ Some y
    → WrittenRight s.images x.version x.to y.written
writes_right entries contents taken requests g committed deleted s kept job x y is at =
    let k = kept.moves.moving job x is in
    let same = same_row (map.get s.mounts x.target) k.target y k.target_is at in
    subst (λ (z : MountState). WrittenRight s.images x.version x.to z.written) same k.written

-- no chunk has a place of no places
no_places : (contents : ByNumber (List ℕ)) (s : Side) (vsn : List ℕ) (place : ℕ) → SparesChunks contents s vsn place 0
no_places contents s vsn place = record {
  live = λ b row is c among q covers low high. omega (arith, low, high);
  once = λ v b c there q covers low high. omega (arith, low, high);
  doubted = λ c is q covers low high. omega (arith, low, high);
}

-- the bytes that are read under a mount are right for each move that has it as its source
abbrev pub SourceFits : ByNumber (List ℕ) → Side → ℕ → List ℕ → Type 0
SourceFits contents s m bytes =
    (job : ℕ) (x : Moving) → map.get s.group.moves job ≡ Some x → x.source ≡ m → ReadPart contents x.bfid.0 x.from bytes

abbrev with_read : List ℕ → MountState → MountState
with_read bytes x = record x { read = Some bytes }

module _ (entries : ByNumber Entry) (contents : ByNumber (List ℕ)) (taken : ByNumber (Unit {0})) (requests : ByNumber OpenRequest)
    (g : ℕ) (committed deleted : ByNumber (Unit {0})) (s : Side) (m : ℕ) (bytes : List ℕ) (fits : SourceFits contents s m bytes)
    (kept : SideKept entries contents taken requests g committed deleted s) where
  read_after : (job : ℕ) (x : Moving) (y : MountState) → map.get s.group.moves job ≡ Some x
      → map.get (adjust s.mounts m (with_read bytes)) x.source ≡ Some y → ReadRight contents x.bfid.0 x.from y.read
  read_after job x y is at =
      elim (adjusted numbers s.mounts m (with_read bytes) x.source y at) [
        | inl here ↦ subst (λ (z : MountState). ReadRight contents x.bfid.0 x.from z.read) (sym here.1.2) (fits job x is here.0)
        | inr beside ↦ reads_right entries contents taken requests g committed deleted s kept job x y is beside.1
      ]

  written_after : (job : ℕ) (x : Moving) (y : MountState) → map.get s.group.moves job ≡ Some x
      → map.get (adjust s.mounts m (with_read bytes)) x.target ≡ Some y → WrittenRight s.images x.version x.to y.written
  written_after job x y is at =
      elim (adjusted numbers s.mounts m (with_read bytes) x.target y at) [
        | inl here ↦ subst (λ (z : MountState). WrittenRight s.images x.version x.to z.written) (sym here.1.2)
            (writes_right entries contents taken requests g committed deleted s kept job x here.1.0 is
            (ap (map.get s.mounts) here.0 ∙ here.1.1))
        | inr beside ↦ writes_right entries contents taken requests g committed deleted s kept job x y is beside.1
      ]

  pub side_source_read : (h : GroupId)
      → SideKept entries contents taken requests g committed deleted (side_after_mark (mark.Source h m bytes) s)
  side_source_read h =
      side_beside entries contents taken requests g committed deleted [] 0 0 s s.images s.copies (adjust s.mounts m (with_read bytes))
      (images_same [] 0 0 s.images) (copies_same HeldLike like_itself s.copies)
      (mount_changed (with_read bytes) s.mounts m (λ x. record { vsn = refl; epoch = refl; origin = refl; bound = refl }))
      (no_places contents s [] 0) (all_written entries contents taken requests g committed deleted s kept)
      (record { read = read_after; written = written_after }) kept
