-- A step's fields tell the step, where its kind is known.
use Rattle.std.proofs.Common.{◌≡◌, ℕ, List, ◌++◌, length, refl, sym, ap, subst, ◌∙◌}
use Rattle.std.specs.List.{AllByRecursion}
use Rattle.dm_base.specs.Naming.{IsSerial}
use Rattle.dm_durable.specs.Fields.{IsByte, IsWord, IsIdentifier, IsCount, FitsChunk, FitsGroupStep}
use Rattle.dm_durable.specs.declared.group.GroupStep.{GroupStep}
use Rattle.dm_fields.specs.Fields.{byte_field, longer_chunk_field, list_field}
use Rattle.dm_fields.specs.Numbers.{be64}
use Rattle.dm_fields.specs.Once.{pair_once, byte_once, number_once, bfid_once, vsn_once, chunk_once, list_once}
use Rattle.dm_fields.specs.Reading.{IsSpelledOnce}
use Rattle.dm_group_records.specs.declared.kinds.StepKind.{StepKind}
use Rattle.dm_group_records.specs.declared.kinds.StepKind.TheVariants as kind
use Rattle.dm_group_records.specs.Steps.{kind_of, step_fields, bfid_field, serial_field}
use Rattle.dm_group_records.proofs.StepForms.{FieldsOf, step_of, of_kind}

pub word_once : IsSpelledOnce be64 IsWord
word_once = number_once 8

pub byte_field_once : IsSpelledOnce byte_field IsByte
byte_field_once x y r s p q e = byte_once x y r s e

fields_once : (k : StepKind) (x y : FieldsOf k) (r s : List ℕ) → FitsGroupStep (step_of k x) → FitsGroupStep (step_of k y) → step_fields (step_of k x) ++ r ≡ step_fields (step_of k y) ++ s → (x ≡ y) × (r ≡ s)
fields_once kind.Volume x y r s p q e = (pair_once serial_field (λ v. IsSerial v.0) (λ (t : ℕ × (ℕ × ℕ)). byte_field t.0 ++ (byte_field t.1.0 ++ be64 t.1.1)) (λ t. IsByte t.0 × (IsByte t.1.0 × IsWord t.1.1)) vsn_once (pair_once byte_field IsByte (λ (t : ℕ × ℕ). byte_field t.0 ++ be64 t.1) (λ t. IsByte t.0 × IsWord t.1) byte_field_once (pair_once byte_field IsByte be64 IsWord byte_field_once word_once))) x y r s (p.0, (p.1, (p.2, p.3))) (q.0, (q.1, (q.2, q.3))) e
fields_once kind.Commit x y r s p q e = (pair_once bfid_field (λ b. IsIdentifier b.0) _ _ bfid_once (pair_once be64 IsWord (list_field longer_chunk_field) (λ cs. IsCount (length cs) × AllByRecursion FitsChunk cs) word_once (list_once longer_chunk_field FitsChunk chunk_once))) x y r s (p.0, (p.1, (p.2, p.3))) (q.0, (q.1, (q.2, q.3))) e
fields_once kind.Delete x y r s p q e = bfid_once x y r s p q e
fields_once kind.Move x y r s p q e = (pair_once bfid_field (λ b. IsIdentifier b.0) _ _ bfid_once (pair_once longer_chunk_field FitsChunk longer_chunk_field FitsChunk chunk_once chunk_once)) x y r s (p.0, (p.1, p.2)) (q.0, (q.1, q.2)) e
fields_once kind.Free x y r s p q e = vsn_once x y r s p q e
fields_once kind.Reuse x y r s p q e = (pair_once serial_field (λ v. IsSerial v.0) _ _ vsn_once (pair_once be64 IsWord byte_field IsByte word_once byte_field_once)) x y r s (p.0, (p.1, p.2)) (q.0, (q.1, q.2)) e

pub step_once : (a b : GroupStep) (r s : List ℕ) → kind_of a ≡ kind_of b → FitsGroupStep a → FitsGroupStep b → step_fields a ++ r ≡ step_fields b ++ s → (a ≡ b) × (r ≡ s)
step_once a b r s same p q e =
    let x = of_kind (kind_of b) a same in
    let y = of_kind (kind_of b) b refl in
    let both = fields_once (kind_of b) x.0 y.0 r s (subst FitsGroupStep x.1 p) (subst FitsGroupStep y.1 q)
    (sym (ap (λ c. step_fields c ++ r) x.1) ∙ e ∙ ap (λ c. step_fields c ++ s) y.1) in
    (x.1 ∙ ap (step_of (kind_of b)) both.0 ∙ sym y.1, both.1)
