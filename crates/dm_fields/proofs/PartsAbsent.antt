-- Parts of rows that could not be read: the fields of each form.
use Rattle.std.proofs.Common.{◌≡◌, ℕ, ◌<◌, ◌^◌, Err, List, ◌++◌, length, refl, sym, ap, ◌∙◌, arith, append_assoc}
use Rattle.dm_base.specs.declared.identifier.Bfid.{Bfid}
use Rattle.dm_durable.specs.declared.daemon.Contents.{Contents}
use Rattle.dm_durable.specs.declared.daemon.Contents.TheVariants.{Regular, Making, Dual, Offline}
use Rattle.dm_durable.specs.declared.daemon.DumpInode.{DumpInode}
use Rattle.dm_durable.specs.declared.daemon.DumpInode.TheVariants.{Kept, Named}
use Rattle.dm_fields.specs.Numbers.{be64, be128}
use Rattle.dm_fields.specs.Once.{number_once}
use Rattle.dm_fields.specs.Parts.{long_content_field, form_fields, IsOfForm, keeping_fields, IsOfKeeping}
use Rattle.dm_fields.specs.Reading.{IsRead}
use Rattle.dm_fields.specs.declared.input.ReadError.{ReadError}
use Rattle.dm_fields.specs.declared.input.ReadError.TheVariants.{Damaged, NoMemory}
use Rattle.dm_fields.specs.declared.texts.LongBytes.{LongBytes}

-- what could not be read as y's is no x that has a y's spelling
pub no_part : {X Y : Type 0} (tail : X → List ℕ) (Q : X → Type 0) (f : Y → List ℕ) (P : Y → Type 0) → ((x : X) → Q x → (y : Y) × (tail x ≡ f y) × P y) → (old new next : List ℕ) (error : ReadError) → IsRead f P old new (Err error) → IsRead tail Q old next (Err error)
no_part tail Q f P as_y old new next NoMemory absent = tt
no_part tail Q f P as_y old new next Damaged absent = λ x rest q e. let y = as_y x q in absent y.0 rest y.2 (e ∙ ap (λ l. l ++ rest) y.1)

abbrev pub bytes_spelling : Bfid × LongBytes → List ℕ
bytes_spelling y = be128 y.0.0 ++ long_content_field y.1.bytes

abbrev pub BytesFit : Bfid × LongBytes → Type 0
BytesFit y = (y.0.0 < 2 ^ 128) × (length y.1.bytes < 2 ^ 64)

abbrev pub length_spelling : Bfid × ℕ → List ℕ
length_spelling y = be128 y.0.0 ++ be64 y.1

abbrev pub LengthFits : Bfid × ℕ → Type 0
LengthFits y = (y.0.0 < 2 ^ 128) × (y.1 < 2 ^ 64)

pub as_regular : (x : Contents) → IsOfForm 0 x → (y : Bfid × LongBytes) × (form_fields x ≡ bytes_spelling y) × BytesFit y
as_regular (Regular bytes) q = ((record { 0 = 0 }, record { bytes = bytes }), refl, (omega arith, q.1))
as_regular (Making bytes b) q = absurd (let e = q.0 in omega arith)
as_regular (Dual bytes b) q = absurd (let e = q.0 in omega arith)
as_regular (Offline len b) q = absurd (let e = q.0 in omega arith)

pub as_making : (x : Contents) → IsOfForm 1 x → (y : Bfid × LongBytes) × (form_fields x ≡ bytes_spelling y) × BytesFit y
as_making (Regular bytes) q = absurd (let e = q.0 in omega arith)
as_making (Making bytes b) q = ((b, record { bytes = bytes }), refl, (q.1.1, q.1.0))
as_making (Dual bytes b) q = absurd (let e = q.0 in omega arith)
as_making (Offline len b) q = absurd (let e = q.0 in omega arith)

pub as_dual : (x : Contents) → IsOfForm 2 x → (y : Bfid × LongBytes) × (form_fields x ≡ bytes_spelling y) × BytesFit y
as_dual (Regular bytes) q = absurd (let e = q.0 in omega arith)
as_dual (Making bytes b) q = absurd (let e = q.0 in omega arith)
as_dual (Dual bytes b) q = ((b, record { bytes = bytes }), refl, (q.1.1, q.1.0))
as_dual (Offline len b) q = absurd (let e = q.0 in omega arith)

pub as_offline : (x : Contents) → IsOfForm 3 x → (y : Bfid × ℕ) × (form_fields x ≡ length_spelling y) × LengthFits y
as_offline (Regular bytes) q = absurd (let e = q.0 in omega arith)
as_offline (Making bytes b) q = absurd (let e = q.0 in omega arith)
as_offline (Dual bytes b) q = absurd (let e = q.0 in omega arith)
as_offline (Offline len b) q = ((b, len), refl, (q.1.1, q.1.0))

pub as_kept : (x : DumpInode) → IsOfKeeping 0 x → (y : Bfid × LongBytes) × (keeping_fields x ≡ bytes_spelling y) × BytesFit y
as_kept (Kept bytes) q = ((record { 0 = 0 }, record { bytes = bytes }), refl, (omega arith, q.1))
as_kept (Named len b) q = absurd (let e = q.0 in omega arith)

pub as_named : (x : DumpInode) → IsOfKeeping 1 x → (y : Bfid × ℕ) × (keeping_fields x ≡ length_spelling y) × LengthFits y
as_named (Kept bytes) q = absurd (let e = q.0 in omega arith)
as_named (Named len b) q = ((b, len), refl, (q.1.1, q.1.0))

-- zeros stand where no bitfile is named
not_zeros : (b : ℕ) (long other old new rest : List ℕ) → b < 2 ^ 128 → (b ≡ 0 → ⊥) → old ≡ (be128 b ++ long) ++ new → old ≡ (be128 0 ++ other) ++ rest → ⊥
not_zeros b long other old new rest small some read e =
    some (number_once 16 b 0 (long ++ new) (other ++ rest) small (omega arith) (sym (append_assoc (be128 b) long new) ∙ sym read ∙ e ∙ append_assoc (be128 0) other rest)).0

pub no_regular : (b : ℕ) (long old new : List ℕ) → b < 2 ^ 128 → (b ≡ 0 → ⊥) → old ≡ (be128 b ++ long) ++ new → (x : Contents) (rest : List ℕ) → IsOfForm 0 x → old ≡ form_fields x ++ rest → ⊥
no_regular b long old new small some read (Regular bytes) rest q e = not_zeros b long (long_content_field bytes) old new rest small some read e
no_regular b long old new small some read (Making bytes d) rest q e = let n = q.0 in omega arith
no_regular b long old new small some read (Dual bytes d) rest q e = let n = q.0 in omega arith
no_regular b long old new small some read (Offline len d) rest q e = let n = q.0 in omega arith

pub no_kept : (b : ℕ) (long old new : List ℕ) → b < 2 ^ 128 → (b ≡ 0 → ⊥) → old ≡ (be128 b ++ long) ++ new → (x : DumpInode) (rest : List ℕ) → IsOfKeeping 0 x → old ≡ keeping_fields x ++ rest → ⊥
no_kept b long old new small some read (Kept bytes) rest q e = not_zeros b long (long_content_field bytes) old new rest small some read e
no_kept b long old new small some read (Named len d) rest q e = let n = q.0 in omega arith
