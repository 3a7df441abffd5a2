-- Rows of checkpoints: what could not be read is none, and each tells what it is.
use Rattle.std.proofs.Common.{◌≡◌, ◌<◌, ◌^◌, ℕ, Option, List, ◌++◌, length, map, refl, sym, ap, subst, ◌∙◌, arith}
use Rattle.std.specs.List.{AllByRecursion}
use Rattle.dm_base.specs.Naming.{IsSerial}
use Rattle.dm_base.specs.declared.identifier.Bfid.{Bfid}
use Rattle.dm_base.specs.declared.identifier.GroupId.{GroupId}
use Rattle.dm_base.specs.declared.identifier.Secs.{Secs}
use Rattle.dm_base.specs.declared.serial.Vsn.{Vsn}
use Rattle.dm_base.specs.declared.volume.Chunk.{Chunk}
use Rattle.dm_durable.specs.Fields.{IsByte, IsWord, IsIdentifier, IsCount, IsTimeOrNone, FitsChunk, FitsVolume, FitsGroupRow, HasNoSum}
use Rattle.dm_durable.specs.declared.group.VolumeRow.{VolumeRow}
use Rattle.dm_durable.specs.declared.group.BitfileRow.{BitfileRow}
use Rattle.dm_durable.specs.declared.group_journal.GroupRow.{GroupRow}
use Rattle.dm_durable.specs.declared.group_journal.GroupRow.TheVariants.{State, Volume, Bitfile, OldVolume, OldBitfile}
use Rattle.dm_fields.specs.Fields.{byte_field, longer_chunk_field, chunk_field, list_field, moment_field}
use Rattle.dm_fields.specs.Numbers.{be64}
use Rattle.dm_fields.specs.Once.{pair_once, byte_once, secs_once, group_once, bfid_once, vsn_once, moment_once, chunk_once, list_once}
use Rattle.dm_fields.specs.Reading.{IsSpelledOnce}
use Rattle.dm_group_records.specs.Chunks.{chunk_of}
use Rattle.dm_group_records.specs.Rows.{row_byte, row_fields, row_spelling, volume_fields, VolumeFields, IsOfRowByte}
use Rattle.dm_group_records.specs.Steps.{bfid_field, serial_field}
use Rattle.dm_group_records.proofs.OldForms.{CommitFields, commit_spelling, CommitFits, commit_once, old_of, olds_list, olds_length, olds_fit, back, chunks_fit, chunks_list, chunks_length}
use Rattle.dm_group_records.proofs.StepOnce.{word_once, byte_field_once}

-- ---- what the rows of each kind have

abbrev pub StateFields : Type 0
StateFields = Secs × GroupId

abbrev pub state_spelling : StateFields → List ℕ
state_spelling y = be64 y.0.0 ++ byte_field y.1.0

abbrev pub StateFits : StateFields → Type 0
StateFits y = IsWord y.0.0 × IsByte y.1.0

abbrev pub NamedVolume : Type 0
NamedVolume = Vsn × VolumeFields

abbrev pub volume_spelling : NamedVolume → List ℕ
volume_spelling y = serial_field y.0 ++ (byte_field y.1.0 ++ (byte_field y.1.1.0 ++ (be64 y.1.1.1.0 ++ (be64 y.1.1.1.1.0 ++ (be64 y.1.1.1.1.1.0 ++ moment_field y.1.1.1.1.1.1)))))

abbrev pub VolumeFits : NamedVolume → Type 0
VolumeFits y = IsSerial y.0.0 × (IsByte y.1.0 × (IsByte y.1.1.0 × (IsWord y.1.1.1.0 × (IsWord y.1.1.1.1.0 × (IsWord y.1.1.1.1.1.0 × IsTimeOrNone y.1.1.1.1.1.1)))))

abbrev pub BitfileFields : Type 0
BitfileFields = Bfid × (ℕ × List Chunk)

abbrev pub bitfile_spelling : BitfileFields → List ℕ
bitfile_spelling y = bfid_field y.0 ++ (be64 y.1.0 ++ list_field longer_chunk_field y.1.1)

abbrev pub BitfileFits : BitfileFields → Type 0
BitfileFits y = IsIdentifier y.0.0 × (IsWord y.1.0 × (IsCount (length y.1.1) × AllByRecursion FitsChunk y.1.1))

abbrev pub OldVolumeFields : Type 0
OldVolumeFields = Vsn × (ℕ × (ℕ × (ℕ × (ℕ × Option Secs))))

abbrev pub old_volume_spelling : OldVolumeFields → List ℕ
old_volume_spelling y = serial_field y.0 ++ (byte_field y.1.0 ++ (be64 y.1.1.0 ++ (be64 y.1.1.1.0 ++ (be64 y.1.1.1.1.0 ++ moment_field y.1.1.1.1.1))))

abbrev pub OldVolumeFits : OldVolumeFields → Type 0
OldVolumeFits y = IsSerial y.0.0 × (IsByte y.1.0 × (IsWord y.1.1.0 × (IsWord y.1.1.1.0 × (IsWord y.1.1.1.1.0 × IsTimeOrNone y.1.1.1.1.1))))

volume_fits : (vsn : Vsn) (v : VolumeRow) → IsSerial vsn.0 → FitsVolume v → VolumeFits (vsn, volume_fields v)
volume_fits vsn v s p = (s, (p.slot, (p.version, (p.size, (p.epoch, (p.end, p.held))))))

abbrev old_volume_fields : Vsn → VolumeRow → OldVolumeFields
old_volume_fields vsn v = (vsn, (v.slot, (v.size, (v.epoch, (v.end, v.held)))))

old_volume_fits : (vsn : Vsn) (v : VolumeRow) → IsSerial vsn.0 → FitsVolume v → OldVolumeFits (old_volume_fields vsn v)
old_volume_fits vsn v s p = (s, (p.slot, (p.size, (p.epoch, (p.end, p.held)))))

abbrev old_bitfile_fields : Bfid → BitfileRow → CommitFields
old_bitfile_fields b r = (b, (r.len, map old_of r.chunks))

old_bitfile-spelling : (b : Bfid) (r : BitfileRow) → row_fields (OldBitfile b r) ≡ commit_spelling (old_bitfile_fields b r)
old_bitfile-spelling b r = ap (λ l. bfid_field b ++ (be64 r.len ++ l)) (olds_list r.chunks)

old_bitfile_fits : (b : Bfid) (r : BitfileRow) → FitsGroupRow (OldBitfile b r) → CommitFits (old_bitfile_fields b r)
old_bitfile_fits b r p = (p.0, (p.1.len, (subst IsCount (sym (olds_length r.chunks)) p.1.few, olds_fit r.chunks p.1.chunks p.2)))

-- ---- a row of a kind has the fields of that kind

pub as_state : (r : GroupRow) → IsOfRowByte 40 r → (y : StateFields) × (row_fields r ≡ state_spelling y) × StateFits y
as_state (State t g) q = ((t, g), refl, q.1)
as_state (Volume vsn v) q = absurd (let e = q.0 in omega arith)
as_state (Bitfile b r) q = absurd (let e = q.0 in omega arith)
as_state (OldVolume vsn v) q = absurd (let e = q.0 in omega arith)
as_state (OldBitfile b r) q = absurd (let e = q.0 in omega arith)

pub as_volume : (r : GroupRow) → IsOfRowByte 43 r → (y : NamedVolume) × (row_fields r ≡ volume_spelling y) × VolumeFits y
as_volume (State t g) q = absurd (let e = q.0 in omega arith)
as_volume (Volume vsn v) q = ((vsn, volume_fields v), refl, volume_fits vsn v q.1.0 q.1.1)
as_volume (Bitfile b r) q = absurd (let e = q.0 in omega arith)
as_volume (OldVolume vsn v) q = absurd (let e = q.0 in omega arith)
as_volume (OldBitfile b r) q = absurd (let e = q.0 in omega arith)

pub as_bitfile : (r : GroupRow) → IsOfRowByte 44 r → (y : BitfileFields) × (row_fields r ≡ bitfile_spelling y) × BitfileFits y
as_bitfile (State t g) q = absurd (let e = q.0 in omega arith)
as_bitfile (Volume vsn v) q = absurd (let e = q.0 in omega arith)
as_bitfile (Bitfile b r) q = ((b, (r.len, r.chunks)), refl, (q.1.0, (q.1.1.len, (q.1.1.few, q.1.1.chunks))))
as_bitfile (OldVolume vsn v) q = absurd (let e = q.0 in omega arith)
as_bitfile (OldBitfile b r) q = absurd (let e = q.0 in omega arith)

pub as_old_volume : (r : GroupRow) → IsOfRowByte 41 r → (y : OldVolumeFields) × (row_fields r ≡ old_volume_spelling y) × OldVolumeFits y
as_old_volume (State t g) q = absurd (let e = q.0 in omega arith)
as_old_volume (Volume vsn v) q = absurd (let e = q.0 in omega arith)
as_old_volume (Bitfile b r) q = absurd (let e = q.0 in omega arith)
as_old_volume (OldVolume vsn v) q = (old_volume_fields vsn v, refl, old_volume_fits vsn v q.1.0 q.1.1)
as_old_volume (OldBitfile b r) q = absurd (let e = q.0 in omega arith)

pub as_old_bitfile : (r : GroupRow) → IsOfRowByte 42 r → (y : CommitFields) × (row_fields r ≡ commit_spelling y) × CommitFits y
as_old_bitfile (State t g) q = absurd (let e = q.0 in omega arith)
as_old_bitfile (Volume vsn v) q = absurd (let e = q.0 in omega arith)
as_old_bitfile (Bitfile b r) q = absurd (let e = q.0 in omega arith)
as_old_bitfile (OldVolume vsn v) q = absurd (let e = q.0 in omega arith)
as_old_bitfile (OldBitfile b r) q = (old_bitfile_fields b r, old_bitfile-spelling b r, old_bitfile_fits b r q.1)

-- ---- what could not be read

pub no_row_kind : (n : ℕ) (bytes : List ℕ) → (n ≡ 40 → ⊥) → (n ≡ 43 → ⊥) → (n ≡ 44 → ⊥) → (n ≡ 41 → ⊥) → (n ≡ 42 → ⊥) → (r : GroupRow) (rest : List ℕ) → IsOfRowByte n r → bytes ≡ row_fields r ++ rest → ⊥
no_row_kind n bytes state volume bitfile old_volume old_bitfile (State t g) rest q e = state (sym q.0)
no_row_kind n bytes state volume bitfile old_volume old_bitfile (Volume vsn v) rest q e = volume (sym q.0)
no_row_kind n bytes state volume bitfile old_volume old_bitfile (Bitfile b r) rest q e = bitfile (sym q.0)
no_row_kind n bytes state volume bitfile old_volume old_bitfile (OldVolume vsn v) rest q e = old_volume (sym q.0)
no_row_kind n bytes state volume bitfile old_volume old_bitfile (OldBitfile b r) rest q e = old_bitfile (sym q.0)

pub row_range : (r : GroupRow) → FitsGroupRow r → row_byte r < 2 ^ 8
row_range (State t g) p = omega arith
row_range (Volume vsn v) p = omega arith
row_range (Bitfile b r) p = omega arith
row_range (OldVolume vsn v) p = omega arith
row_range (OldBitfile b r) p = omega arith

-- a bitfile of old that was read
pub old_bitfile_read : (b : Bfid) (len : ℕ) (os : List _) (cs : List Chunk) (bytes new : List ℕ) → cs ≡ map chunk_of os → (bytes ≡ commit_spelling (b, (len, os)) ++ new) × CommitFits (b, (len, os)) → (bytes ≡ row_fields (OldBitfile b (record { len = len; chunks = cs })) ++ new) × IsOfRowByte 42 (OldBitfile b (record { len = len; chunks = cs }))
old_bitfile_read b len os cs bytes new same is =
    let fit = chunks_fit os is.1.1.1.1 in (
      is.0 ∙ ap (λ l. (bfid_field b ++ (be64 len ++ l)) ++ new) (chunks_list os ∙ ap (list_field chunk_field) (sym same)),
      (
        refl,
        (
          is.1.0,
          record {
            len = is.1.1.0;
            few = subst IsCount (sym (chunks_length os) ∙ ap length (sym same)) is.1.1.1.0;
            chunks = subst (AllByRecursion FitsChunk) (sym same) fit.0;
          },
          subst (AllByRecursion HasNoSum) (sym same) fit.1,
        ),
      ),
    )

-- ---- rows tell what they are

state_once : IsSpelledOnce state_spelling StateFits
state_once = pair_once (λ (t : Secs). be64 t.0) (λ t. IsWord t.0) (λ (g : GroupId). byte_field g.0) (λ g. IsByte g.0) secs_once group_once

-- size, epoch, end and when it was freed
abbrev places_spelling : ℕ × (ℕ × (ℕ × Option Secs)) → List ℕ
places_spelling y = be64 y.0 ++ (be64 y.1.0 ++ (be64 y.1.1.0 ++ moment_field y.1.1.1))

abbrev PlacesFit : ℕ × (ℕ × (ℕ × Option Secs)) → Type 0
PlacesFit y = IsWord y.0 × (IsWord y.1.0 × (IsWord y.1.1.0 × IsTimeOrNone y.1.1.1))

places_once : IsSpelledOnce places_spelling PlacesFit
places_once = pair_once be64 IsWord _ _ word_once (pair_once be64 IsWord _ _ word_once (pair_once be64 IsWord moment_field IsTimeOrNone word_once moment_once))

-- and a byte in front: the version, or the slot of old
abbrev Behind : Type 0
Behind = ℕ × (ℕ × (ℕ × (ℕ × Option Secs)))

abbrev behind_spelling : Behind → List ℕ
behind_spelling y = byte_field y.0 ++ places_spelling y.1

abbrev BehindFits : Behind → Type 0
BehindFits y = IsByte y.0 × PlacesFit y.1

behind_once : IsSpelledOnce behind_spelling BehindFits
behind_once = pair_once byte_field IsByte places_spelling PlacesFit byte_field_once places_once

-- and the slot in front of the version
slot_once : IsSpelledOnce (λ (y : ℕ × Behind). byte_field y.0 ++ behind_spelling y.1) (λ y. IsByte y.0 × BehindFits y.1)
slot_once = pair_once byte_field IsByte behind_spelling BehindFits byte_field_once behind_once

volume_once : IsSpelledOnce volume_spelling VolumeFits
volume_once = pair_once serial_field (λ v. IsSerial v.0) (λ (y : ℕ × Behind). byte_field y.0 ++ behind_spelling y.1) (λ y. IsByte y.0 × BehindFits y.1) vsn_once slot_once

old_volume_once : IsSpelledOnce old_volume_spelling OldVolumeFits
old_volume_once = pair_once serial_field (λ v. IsSerial v.0) behind_spelling BehindFits vsn_once behind_once

bitfile_once : IsSpelledOnce bitfile_spelling BitfileFits
bitfile_once = pair_once bfid_field (λ b. IsIdentifier b.0) _ _ bfid_once (pair_once be64 IsWord (list_field longer_chunk_field) (λ cs. IsCount (length cs) × AllByRecursion FitsChunk cs) word_once (list_once longer_chunk_field FitsChunk chunk_once))

behind : (p q : GroupRow) (r s : List ℕ) → row_spelling p ++ r ≡ row_spelling q ++ s → (row_byte p ≡ row_byte q) × (row_fields p ++ r ≡ row_fields q ++ s)
behind p q r s e = byte_once (row_byte p) (row_byte q) (row_fields p ++ r) (row_fields q ++ s) e

pub row_once : IsSpelledOnce row_spelling FitsGroupRow
row_once (State t g) (State u h) r s p q e =
    let both = state_once (t, g) (u, h) r s p q (behind (State t g) (State u h) r s e).1 in
    (λ i. State ((both.0 i).0) ((both.0 i).1), both.1)
row_once (Volume x v) (Volume y w) r s p q e =
    let both = volume_once (x, volume_fields v) (y, volume_fields w) r s (volume_fits x v p.0 p.1) (volume_fits y w q.0 q.1) (behind (Volume x v) (Volume y w) r s e).1 in
    let f = both.0 in
    (λ i. Volume ((f i).0) (record { slot = (f i).1.0; version = (f i).1.1.0; size = (f i).1.1.1.0; epoch = (f i).1.1.1.1.0; end = (f i).1.1.1.1.1.0; held = (f i).1.1.1.1.1.1 }), both.1)
row_once (Bitfile b x) (Bitfile d y) r s p q e =
    let both = bitfile_once (b, (x.len, x.chunks)) (d, (y.len, y.chunks)) r s (p.0, (p.1.len, (p.1.few, p.1.chunks))) (q.0, (q.1.len, (q.1.few, q.1.chunks))) (behind (Bitfile b x) (Bitfile d y) r s e).1 in
    (λ i. Bitfile ((both.0 i).0) (record { len = (both.0 i).1.0; chunks = (both.0 i).1.1 }), both.1)
row_once (OldVolume x v) (OldVolume y w) r s p q e =
    let both = old_volume_once (old_volume_fields x v) (old_volume_fields y w) r s (old_volume_fits x v p.0 p.1) (old_volume_fits y w q.0 q.1) (behind (OldVolume x v) (OldVolume y w) r s e).1 in
    let f = both.0 in
    let version : v.version ≡ w.version = p.2 ∙ sym q.2 in
    (λ i. OldVolume ((f i).0) (record { slot = (f i).1.0; version = version i; size = (f i).1.1.0; epoch = (f i).1.1.1.0; end = (f i).1.1.1.1.0; held = (f i).1.1.1.1.1 }), both.1)
row_once (OldBitfile b x) (OldBitfile d y) r s p q e =
    let both = commit_once (old_bitfile_fields b x) (old_bitfile_fields d y) r s (old_bitfile_fits b x p) (old_bitfile_fits d y q)
    (sym (ap (λ l. l ++ r) (old_bitfile-spelling b x)) ∙ (behind (OldBitfile b x) (OldBitfile d y) r s e).1 ∙ ap (λ l. l ++ s) (old_bitfile-spelling d y)) in
    let f = both.0 in
    let chunks : x.chunks ≡ y.chunks = sym (back x.chunks) ∙ ap (λ z. map chunk_of z.1.1) f ∙ back y.chunks in
    (λ i. OldBitfile ((f i).0) (record { len = (f i).1.0; chunks = chunks i }), both.1)
row_once (State t g) (Volume y w) r s p q e = absurd (let n = (behind (State t g) (Volume y w) r s e).0 in omega arith)
row_once (State t g) (Bitfile d y) r s p q e = absurd (let n = (behind (State t g) (Bitfile d y) r s e).0 in omega arith)
row_once (State t g) (OldVolume y w) r s p q e = absurd (let n = (behind (State t g) (OldVolume y w) r s e).0 in omega arith)
row_once (State t g) (OldBitfile d y) r s p q e = absurd (let n = (behind (State t g) (OldBitfile d y) r s e).0 in omega arith)
row_once (Volume x v) (State u h) r s p q e = absurd (let n = (behind (Volume x v) (State u h) r s e).0 in omega arith)
row_once (Volume x v) (Bitfile d y) r s p q e = absurd (let n = (behind (Volume x v) (Bitfile d y) r s e).0 in omega arith)
row_once (Volume x v) (OldVolume y w) r s p q e = absurd (let n = (behind (Volume x v) (OldVolume y w) r s e).0 in omega arith)
row_once (Volume x v) (OldBitfile d y) r s p q e = absurd (let n = (behind (Volume x v) (OldBitfile d y) r s e).0 in omega arith)
row_once (Bitfile b x) (State u h) r s p q e = absurd (let n = (behind (Bitfile b x) (State u h) r s e).0 in omega arith)
row_once (Bitfile b x) (Volume y w) r s p q e = absurd (let n = (behind (Bitfile b x) (Volume y w) r s e).0 in omega arith)
row_once (Bitfile b x) (OldVolume y w) r s p q e = absurd (let n = (behind (Bitfile b x) (OldVolume y w) r s e).0 in omega arith)
row_once (Bitfile b x) (OldBitfile d y) r s p q e = absurd (let n = (behind (Bitfile b x) (OldBitfile d y) r s e).0 in omega arith)
row_once (OldVolume x v) (State u h) r s p q e = absurd (let n = (behind (OldVolume x v) (State u h) r s e).0 in omega arith)
row_once (OldVolume x v) (Volume y w) r s p q e = absurd (let n = (behind (OldVolume x v) (Volume y w) r s e).0 in omega arith)
row_once (OldVolume x v) (Bitfile d y) r s p q e = absurd (let n = (behind (OldVolume x v) (Bitfile d y) r s e).0 in omega arith)
row_once (OldVolume x v) (OldBitfile d y) r s p q e = absurd (let n = (behind (OldVolume x v) (OldBitfile d y) r s e).0 in omega arith)
row_once (OldBitfile b x) (State u h) r s p q e = absurd (let n = (behind (OldBitfile b x) (State u h) r s e).0 in omega arith)
row_once (OldBitfile b x) (Volume y w) r s p q e = absurd (let n = (behind (OldBitfile b x) (Volume y w) r s e).0 in omega arith)
row_once (OldBitfile b x) (Bitfile d y) r s p q e = absurd (let n = (behind (OldBitfile b x) (Bitfile d y) r s e).0 in omega arith)
row_once (OldBitfile b x) (OldVolume y w) r s p q e = absurd (let n = (behind (OldBitfile b x) (OldVolume y w) r s e).0 in omega arith)
