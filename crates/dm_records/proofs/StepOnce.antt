-- A step's fields tell the step, where its kind is known.
use Rattle.std.proofs.Common.{◌≡◌, ℕ, List, ◌++◌, length, refl, sym, ap, subst, ◌∙◌}
use Rattle.std.specs.List.{AllByRecursion}
use Rattle.dm_base.specs.Naming.{IsPath, IsDumpName}
use Rattle.dm_base.specs.declared.identifier.GroupId.{GroupId}
use Rattle.dm_base.specs.declared.identifier.Ino.{Ino}
use Rattle.dm_durable.specs.Fields.{IsByte, IsWord, IsIdentifier, IsCount, FitsStep}
use Rattle.dm_durable.specs.declared.daemon.DaemonStep.{DaemonStep}
use Rattle.dm_fields.specs.Fields.{flag_field, path_field, name_field, content_field, short_list_field}
use Rattle.dm_fields.specs.Numbers.{be64}
use Rattle.dm_fields.specs.Once.{pair_once, path_once, name_once, content_once, number_once, bfid_once, group_once, ino_once, flag_once, list_once, wrapped_short_list_once}
use Rattle.dm_fields.specs.Reading.{IsSpelledOnce}
use Rattle.dm_fields.specs.declared.lists.ShortList.{ShortList}
use Rattle.dm_records.specs.declared.kinds.StepKind.{StepKind}
use Rattle.dm_records.specs.declared.kinds.StepKind.TheVariants as kind
use Rattle.dm_records.specs.Steps.{kind_of, step_fields, bfid_field, group_field}
use Rattle.dm_records.proofs.StepForms.{FieldsOf, step_of, of_kind}

word_once : IsSpelledOnce be64 IsWord
word_once = number_once 8

fields_once : (k : StepKind) (x y : FieldsOf k) (r s : List ℕ) → FitsStep (step_of k x) → FitsStep (step_of k y) → step_fields (step_of k x) ++ r ≡ step_fields (step_of k y) ++ s → (x ≡ y) × (r ≡ s)
fields_once kind.Write x y r s p q e = (pair_once path_field IsPath _ _ path_once (pair_once be64 IsWord content_field (λ bytes. IsCount (length bytes)) word_once content_once)) x y r s (p.0, (p.1, p.2)) (q.0, (q.1, q.2)) e
fields_once kind.Remove x y r s p q e = (pair_once path_field IsPath be64 IsWord path_once word_once) x y r s p q e
fields_once kind.BeginPut x y r s p q e = (pair_once path_field IsPath _ _ path_once (pair_once bfid_field (λ b. IsIdentifier b.0) (λ (l : ShortList GroupId). short_list_field group_field l.items) (λ l. IsByte (length l.items) × AllByRecursion (λ g. IsByte g.0) l.items) bfid_once (wrapped_short_list_once group_field (λ g. IsByte g.0) group_once))) x y r s (p.0, (p.1, (p.2, p.3))) (q.0, (q.1, (q.2, q.3))) e
fields_once kind.Stored x y r s p q e = (pair_once bfid_field (λ b. IsIdentifier b.0) group_field (λ g. IsByte g.0) bfid_once group_once) x y r s p q e
fields_once kind.EndPut x y r s p q e = (pair_once (λ (n : Ino). be64 n.0) (λ n. IsWord n.0) _ _ ino_once (pair_once bfid_field (λ b. IsIdentifier b.0) flag_field (λ _. Unit {0}) bfid_once (λ a b r s p q e. flag_once a b r s e))) x y r s (p.0, (p.1, tt)) (q.0, (q.1, tt)) e
fields_once kind.Release x y r s p q e = path_once x y r s p q e
fields_once kind.Taken x y r s p q e = (pair_once (λ (n : Ino). be64 n.0) (λ n. IsWord n.0) content_field (λ bytes. IsCount (length bytes)) ino_once content_once) x y r s p q e
fields_once kind.Dump x y r s p q e = name_once x y r s p q e
fields_once kind.Undump x y r s p q e = name_once x y r s p q e
fields_once kind.Restore x y r s p q e = (pair_once name_field IsDumpName _ _ name_once (pair_once path_field IsPath _ _ path_once (pair_once path_field IsPath be64 IsWord path_once word_once))) x y r s (p.0, (p.1, (p.2, p.3))) (q.0, (q.1, (q.2, q.3))) e
fields_once kind.HardDelete x y r s p q e = (list_once bfid_field (λ b. IsIdentifier b.0) bfid_once) x y r s p q e
fields_once kind.Dropped x y r s p q e = bfid_once x y r s p q e
fields_once kind.Restart x y r s p q e = (refl, e)
fields_once kind.Age x y r s p q e = word_once x y r s p q e

pub step_once : (a b : DaemonStep) (r s : List ℕ) → kind_of a ≡ kind_of b → FitsStep a → FitsStep b → step_fields a ++ r ≡ step_fields b ++ s → (a ≡ b) × (r ≡ s)
step_once a b r s same p q e =
    let x = of_kind (kind_of b) a same in
    let y = of_kind (kind_of b) b refl in
    let both = fields_once (kind_of b) x.0 y.0 r s (subst FitsStep x.1 p) (subst FitsStep y.1 q)
    (sym (ap (λ c. step_fields c ++ r) x.1) ∙ e ∙ ap (λ c. step_fields c ++ s) y.1) in
    (x.1 ∙ ap (step_of (kind_of b)) both.0 ∙ sym y.1, both.1)
