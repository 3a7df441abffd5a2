-- Where nobody uses a volume, what is open goes over to tables in which the others stay.
use Rattle.std.proofs.Common.{◌≡◌, ◌≢◌, ℕ, ◌≤◌, false, List, Some, refl, sym, ap, subst, ◌∙◌, inl, inr}
use Rattle.std.specs.List.{list_any}
use Rattle.std.specs.FinMap as map
use Rattle.dm_base.specs.declared.conf.GroupConf.{GroupConf}
use Rattle.dm_base.specs.declared.serial.Vsn.{Vsn}
use Rattle.dm_base.specs.declared.volume.Chunk.{Chunk}
use Rattle.dm_tables.specs.Rows.{EachRow, adjust}
use Rattle.dm_tables.proofs.Adjusted.{adjusted}
use Rattle.dm_tables.proofs.Any.{any-false}
use Rattle.dm_tables.proofs.Orders.{numbers, paths}
use Rattle.dm_durable.specs.declared.daemon.Entry.{Entry}
use Rattle.dm_durable.specs.declared.group.BitfileRow.{BitfileRow}
use Rattle.dm_durable.specs.declared.group.GroupTables.{GroupTables}
use Rattle.dm_durable.specs.declared.group.VolumeRow.{VolumeRow}
use Rattle.dm_durable.specs.Group.{has_chunk_on, is_on}
use Rattle.dm_durable.specs.Tables.{ByNumber, ByName}
use Rattle.dm_durable.specs.Volumes.{epoch_or}
use Rattle.dm_model.specs.declared.state.CopyState.{CopyState}
use Rattle.dm_model.specs.declared.state.Image.{Image}
use Rattle.dm_model.specs.declared.state.Moving.{Moving}
use Rattle.dm_model.specs.declared.state.OpenRequest.{OpenRequest}
use Rattle.dm_model.specs.declared.state.Origin.{Origin}
use Rattle.dm_model.specs.declared.state.Origin.TheVariants as origin
use Rattle.dm_model.specs.declared.state.Reserved.{Reserved}
use Rattle.dm_model.specs.declared.state.Reusing.{Reusing}
use Rattle.dm_model.specs.declared.state.Side.{Side}
use Rattle.dm_invariant.specs.Among.{IsAmong}
use Rattle.dm_invariant.specs.Doubts.{IsUnused}
use Rattle.dm_invariant.specs.Kept.{SideKept}
use Rattle.dm_invariant.specs.Mounts.{OriginKept, TargetMount}
use Rattle.dm_invariant.proofs.Lists.{one_passes}
use Rattle.dm_invariant.proofs.Texts.{same_texts}
use Rattle.dm_landing.proofs.GroupLanding.{OpenStays, StaysAt}
use Rattle.dm_landing.proofs.VolumesOnward.{OriginOnward}

-- where no chunk of a list is on the volume, each is on another
chunk_elsewhere : (vsn : List ℕ) (cs : List Chunk) (c : Chunk) → list_any (is_on vsn) cs ≡ false → IsAmong c cs → c.vsn.0 ≢ vsn
chunk_elsewhere vsn cs c none among =
    λ same. let f = one_passes (is_on vsn) c cs among (same_texts c.vsn.0 vsn same) in let g = sym none ∙ f in cc

-- so it is of all bitfiles
pub chunks_elsewhere : (bitfiles : ByNumber BitfileRow) (vsn : List ℕ) → has_chunk_on bitfiles vsn ≡ false
    → EachRow bitfiles (λ b row. (c : Chunk) → IsAmong c row.chunks → c.vsn.0 ≢ vsn)
chunks_elsewhere bitfiles vsn none = λ b row is c among.
    chunk_elsewhere vsn row.chunks c (any-false numbers (λ b row. list_any (is_on vsn) row.chunks) bitfiles none b row is) among

module _ (s : Side) (t : GroupTables) (tips : ByName ℕ) (images : ByName Image) (vsn : List ℕ)
    (on : (q : List ℕ) → q ≢ vsn → StaysAt s t tips images q) where
  -- the chunk of a mount of another volume is on that
  origin_unused : (conf : GroupConf) (reservations : ByNumber Reserved) (copies : ByNumber CopyState) (moves : ByNumber Moving)
      (reuses : ByNumber Reusing) (m : ℕ) (mounted : Vsn) (made : Origin) → (mounted.0 ≡ vsn → ⊥)
      → OriginKept conf reservations copies moves reuses m mounted made
      → OriginOnward s.group.tables.volumes t.volumes s.group.tips tips s.images images made
  origin_unused conf reservations copies moves reuses m mounted (origin.New listed format) differ k = tt
  origin_unused conf reservations copies moves reuses m mounted (origin.Piece b index p chunk) differ k = tt
  origin_unused conf reservations copies moves reuses m mounted (origin.Chunk b c) differ k =
      on c.vsn.0 (λ same. differ (ap (λ x. x.0) (sym k) ∙ same))
  origin_unused conf reservations copies moves reuses m mounted (origin.Source job b c) differ k =
      on c.vsn.0 (λ same. differ (ap (λ x. x.0) (sym k.volume) ∙ same))
  origin_unused conf reservations copies moves reuses m mounted (origin.Target job b total c version) differ k = tt
  origin_unused conf reservations copies moves reuses m mounted (origin.Reuse next_epoch version reading) differ k = tt

  -- what is open is about other volumes
  pub unused_stays : (entries : ByNumber Entry) (contents : ByNumber (List ℕ)) (taken : ByNumber (Unit {0})) (requests : ByNumber OpenRequest)
      (g : ℕ) (committed deleted : ByNumber (Unit {0})) → IsUnused s.mounts s.group.reservations vsn
      → SideKept entries contents taken requests g committed deleted s
      → t.group ≡ s.group.tables.group → s.group.tables.time.0 ≤ t.time.0 → t.bitfiles ≡ s.group.tables.bitfiles
      → ((q : List ℕ) → q ≢ vsn → epoch_or (map.get t.volumes q) ≡ epoch_or (map.get s.group.tables.volumes q))
      → OpenStays s t tips images
  unused_stays entries contents taken requests g committed deleted unused k number later same epochs = record {
    number = number;
    later = later;
    epochs = λ m x is. epochs x.vsn.0 (unused.unmounted m x is);
    chunks = λ m x is.
        origin_unused s.group.conf s.group.reservations s.copies s.group.moves s.group.reuses m x.vsn x.origin (unused.unmounted m x is)
        (k.mounts.origin m x is);
    pieces = λ n r is p among. on p.vsn.0 (unused.unreserved n r is p among);
    new = λ n r is. ap (λ b. map.get b r.bfid.0) same ∙ (k.reservations.reservation n r is).new;
    targets = λ job x is.
        let moving = k.moves.moving job x is in
        let made = k.mounts.origin x.target moving.target moving.target_is in
        let P : Origin → Type 0 = λ z.
        OriginKept s.group.conf s.group.reservations s.copies s.group.moves s.group.reuses x.target moving.target.vsn z in
        let mount : TargetMount s.group.moves x.target job x.bfid x.total x.to x.version moving.target.vsn =
        subst P moving.target_for made in
        on x.to.vsn.0 (λ at. unused.unmounted x.target moving.target moving.target_is (ap (λ z. z.0) (sym mount.volume) ∙ at));
    reused = λ m x is.
        let r = k.reuses m x is in
        on x.vsn.0 (λ at. unused.unmounted m r.mount r.is (ap (λ z. z.0) r.same ∙ at));
  }

-- ---- volumes of which one is changed in its place

-- a row of the tables with one row changed was there, with the same slot
pub slot_before : (volumes : ByName VolumeRow) (vsn : List ℕ) (f : VolumeRow → VolumeRow) → ((x : VolumeRow) → (f x).slot ≡ x.slot)
    → (q : List ℕ) (y : VolumeRow) → map.get (adjust volumes vsn f) q ≡ Some y
    → (x : VolumeRow) × (map.get volumes q ≡ Some x) × (y.slot ≡ x.slot)
slot_before volumes vsn f same q y e =
    elim (adjusted paths volumes vsn f q y e) [
      | inl at ↦ (at.1.0, ap (map.get volumes) at.0 ∙ at.1.1, ap (λ r. r.slot) at.1.2 ∙ same at.1.0)
      | inr beside ↦ (y, beside.1, refl)
    ]

-- so no two have one slot where no two had
pub slots_adjusted : (volumes : ByName VolumeRow) (vsn : List ℕ) (f : VolumeRow → VolumeRow) → ((x : VolumeRow) → (f x).slot ≡ x.slot)
    → ((v w : List ℕ) (x y : VolumeRow) → map.get volumes v ≡ Some x → map.get volumes w ≡ Some y → x.slot ≡ y.slot → v ≡ w)
    → (v w : List ℕ) (x y : VolumeRow) → map.get (adjust volumes vsn f) v ≡ Some x → map.get (adjust volumes vsn f) w ≡ Some y
    → x.slot ≡ y.slot → v ≡ w
slots_adjusted volumes vsn f same apart v w x y e h slots =
    let a = slot_before volumes vsn f same v x e in
    let b = slot_before volumes vsn f same w y h in
    apart v w a.0 b.0 a.1 b.1 (sym a.2 ∙ slots ∙ b.2)
