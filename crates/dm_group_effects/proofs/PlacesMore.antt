-- A new zone begins at the tip of its volume, and all that has places lies before the tips: so no place of it is another's.
use Rattle.std.proofs.Common.{◌≡◌, ◌⊎◌, ℕ, ◌<◌, ◌≤◌, List, Option, Some, None, inl, inr, refl, sym, ap, subst, ◌∙◌, arith}
use Rattle.std.specs.FinMap as map
use Rattle.dm_base.specs.declared.conf.GroupConf.{GroupConf}
use Rattle.dm_base.specs.declared.volume.Chunk.{Chunk}
use Rattle.dm_base.specs.declared.volume.Piece.{Piece}
use Rattle.dm_tables.specs.Rows.{EachRow}
use Rattle.dm_tables.proofs.Rows.{one_row}
use Rattle.dm_durable.specs.declared.daemon.Entry.{Entry}
use Rattle.dm_durable.specs.declared.group.GroupRecord.{GroupRecord}
use Rattle.dm_durable.specs.declared.group.VolumeRow.{VolumeRow}
use Rattle.dm_durable.specs.Tables.{ByName, ByNumber}
use Rattle.dm_durable.specs.Volumes.{Usage, tip_in}
use Rattle.dm_model.specs.declared.state.OpenRequest.{OpenRequest}
use Rattle.dm_model.specs.declared.state.Side.{Side}
use Rattle.dm_invariant.specs.Catalogue.{LiesBefore}
use Rattle.dm_invariant.specs.Kept.{SideKept}
use Rattle.dm_invariant.specs.Moves.{TargetInHand}
use Rattle.dm_invariant.specs.Places.{ChunkCovers, Doubted, HasPlace, IsDoubted, Reserving, Live, Owner, PieceCovers, Target, TargetCovers}
use Rattle.dm_invariant.specs.Reservations.{ZoneInHand}
use Rattle.dm_invariant.specs.Volumes.{VolumeKept}
use Rattle.dm_group_effects.proofs.TipsMoved.{NewZone}

-- a place before the tip of its volume
pub record BeforeTip (volumes : ByName VolumeRow) (tips : ByName ℕ) (vsn : List ℕ) (place : ℕ) : Type 0 where
  pub volume : VolumeRow
  pub is : map.get volumes vsn ≡ Some volume
  pub before : place < tip_in tips vsn volume

-- a place before the end of a volume
pub end_before : (conf : GroupConf) (now : ℕ) (volumes : ByName VolumeRow) (tips : ByName ℕ) (vsn : List ℕ) (v : VolumeRow) (place : ℕ)
    → EachRow volumes (VolumeKept conf tips now) → map.get volumes vsn ≡ Some v → place < v.end → BeforeTip volumes tips vsn place
end_before conf now volumes tips vsn v place kept is low =
    let end = (kept vsn v is).end in record { volume = v; is = is; before = omega (arith, low, end) }

-- those of a chunk are
chunk_before : (conf : GroupConf) (now : ℕ) (volumes : ByName VolumeRow) (tips : ByName ℕ) (c : Chunk) (vsn : List ℕ) (place : ℕ)
    → EachRow volumes (VolumeKept conf tips now) → LiesBefore volumes c → ChunkCovers c vsn place → BeforeTip volumes tips vsn place
chunk_before conf now volumes tips c vsn place kept lies covers =
    let within = lies.within in
    let high = covers.high in
    end_before conf now volumes tips vsn lies.volume place kept (ap (map.get volumes) (sym covers.same) ∙ lies.is) (omega (arith, within, high))

-- those of a zone in hand
zone_before : (volumes : ByName VolumeRow) (tips : ByName ℕ) (chunk : ℕ) (p : Piece) (vsn : List ℕ) (place : ℕ) → ZoneInHand volumes tips chunk p
    → PieceCovers chunk p vsn place → BeforeTip volumes tips vsn place
zone_before volumes tips chunk p vsn place z covers =
    let tip : tip_in tips p.vsn.0 z.volume ≡ tip_in tips vsn z.volume = ap (λ k. tip_in tips k z.volume) covers.same in
    let within = z.within in
    let high = covers.high in
    record { volume = z.volume; is = ap (map.get volumes) (sym covers.same) ∙ z.is; before = omega (arith, tip, within, high) }

-- and those of a chunk that is moved
target_before : (volumes : ByName VolumeRow) (tips : ByName ℕ) (version : ℕ) (c : Chunk) (vsn : List ℕ) (place : ℕ)
    → TargetInHand volumes tips version c → TargetCovers version c vsn place → BeforeTip volumes tips vsn place
target_before volumes tips version c vsn place z covers =
    let tip : tip_in tips c.vsn.0 z.volume ≡ tip_in tips vsn z.volume = ap (λ k. tip_in tips k z.volume) covers.same in
    let within = z.within in
    let high = covers.high in
    record { volume = z.volume; is = ap (map.get volumes) (sym covers.same) ∙ z.is; before = omega (arith, tip, within, high) }

not_doubted : (c : Chunk) (o : Option GroupRecord) → o ≡ None → IsDoubted c o → ⊥
not_doubted c o none is = subst (IsDoubted c) none is

-- all that has places lies before the tips, where nothing is in doubt
pub owner_before : (entries : ByNumber Entry) (contents : ByNumber (List ℕ)) (taken : ByNumber (Unit {0})) (requests : ByNumber OpenRequest)
    (g : ℕ) (committed deleted : ByNumber (Unit {0})) (s : Side) → s.group.doubt ≡ None
    → SideKept entries contents taken requests g committed deleted s
    → (o : Owner) (vsn : List ℕ) (place : ℕ)
    → HasPlace s.group.tables.bitfiles s.group.reservations s.group.moves s.group.doubt o vsn place
    → BeforeTip s.group.tables.volumes s.group.tips vsn place
owner_before entries contents taken requests g committed deleted s settled k (Live b offset) vsn place has =
    chunk_before s.group.conf s.group.tables.time.0 s.group.tables.volumes s.group.tips has.chunk vsn place k.volumes.volume
    ((k.catalogue.bitfile b has.row has.is).lies has.chunk has.among) has.covers
owner_before entries contents taken requests g committed deleted s settled k (Reserving n offset) vsn place has =
    zone_before s.group.tables.volumes s.group.tips has.reserved.chunk has.piece vsn place
    ((k.reservations.reservation n has.reserved has.is).zones has.piece has.among) has.covers
owner_before entries contents taken requests g committed deleted s settled k (Target job) vsn place has =
    target_before s.group.tables.volumes s.group.tips has.moving.version has.moving.to vsn place (k.moves.moving job has.moving has.is).zone has.covers
owner_before entries contents taken requests g committed deleted s settled k (Doubted zone) vsn place has =
    absurd (not_doubted has.chunk s.group.doubt settled has.among)

-- what has a place of a new zone doesn't
pub beyond_tip : (u : Usage) (volumes : ByName VolumeRow) (vsn : List ℕ) (version zone end place : ℕ) → NewZone u volumes vsn version zone end
    → zone ≤ place → BeforeTip volumes u.tips vsn place → ⊥
beyond_tip u volumes vsn version zone end place z low b =
    let same : z.volume ≡ b.volume = one_row volumes vsn vsn z.volume b.volume refl z.is b.is in
    let from : zone ≡ tip_in u.tips vsn b.volume = z.from ∙ ap (λ (w : VolumeRow). tip_in u.tips vsn w) same in
    let before = b.before in
    omega (arith, from, low, before)

-- so no place is of two, where each owner is a new one, beyond the tips, or an old one, before them
pub places_more : (volumes : ByName VolumeRow) (tips : ByName ℕ) (New Old After : Owner → List ℕ → ℕ → Type 0)
    → ((o : Owner) (vsn : List ℕ) (place : ℕ) → After o vsn place → New o vsn place ⊎ Old o vsn place)
    → ((o p : Owner) (vsn : List ℕ) (place : ℕ) → New o vsn place → New p vsn place → o ≡ p)
    → ((o : Owner) (vsn : List ℕ) (place : ℕ) → New o vsn place → BeforeTip volumes tips vsn place → ⊥)
    → ((o : Owner) (vsn : List ℕ) (place : ℕ) → Old o vsn place → BeforeTip volumes tips vsn place)
    → ((o p : Owner) (vsn : List ℕ) (place : ℕ) → Old o vsn place → Old p vsn place → o ≡ p)
    → (o p : Owner) (vsn : List ℕ) (place : ℕ) → After o vsn place → After p vsn place → o ≡ p
places_more volumes tips New Old After split one beyond before apart o p vsn place a b =
    elim (split o vsn place a) [
      | inl x ↦ elim (split p vsn place b) [
        | inl y ↦ one o p vsn place x y
        | inr y ↦ absurd (beyond o vsn place x (before p vsn place y))
      ]
      | inr x ↦ elim (split p vsn place b) [
        | inl y ↦ absurd (beyond p vsn place y (before o vsn place x))
        | inr y ↦ apart o p vsn place x y
      ]
    ]
