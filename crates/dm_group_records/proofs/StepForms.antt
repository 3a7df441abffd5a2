-- A step is its kind and its fields: what could not be read as the fields of a kind is no step of that kind.
use Rattle.std.proofs.Common.{◌≡◌, ℕ, Err, List, ◌++◌, refl, ap, subst, ◌∙◌}
use Rattle.dm_base.specs.declared.identifier.Bfid.{Bfid}
use Rattle.dm_base.specs.declared.serial.Vsn.{Vsn}
use Rattle.dm_base.specs.declared.volume.Chunk.{Chunk}
use Rattle.dm_durable.specs.Fields.{FitsGroupStep}
use Rattle.dm_durable.specs.declared.group.GroupStep.{GroupStep}
use Rattle.dm_durable.specs.declared.group.GroupStep.TheVariants as step
use Rattle.dm_fields.specs.Reading.{IsRead}
use Rattle.dm_fields.specs.declared.input.ReadError.{ReadError}
use Rattle.dm_fields.specs.declared.input.ReadError.TheVariants.{Damaged, NoMemory}
use Rattle.dm_group_records.specs.declared.kinds.StepKind.{StepKind}
use Rattle.dm_group_records.specs.declared.kinds.StepKind.TheVariants as kind
use Rattle.dm_group_records.specs.Steps.{kind_of, step_fields, IsOfKind}

-- what the records of a kind have
abbrev pub FieldsOf : StepKind → Type 0
FieldsOf kind.Volume = Vsn × (ℕ × (ℕ × ℕ))
FieldsOf kind.Commit = Bfid × (ℕ × List Chunk)
FieldsOf kind.Delete = Bfid
FieldsOf kind.Move = Bfid × (Chunk × Chunk)
FieldsOf kind.Free = Vsn
FieldsOf kind.Reuse = Vsn × (ℕ × ℕ)

abbrev pub step_of : (k : StepKind) → FieldsOf k → GroupStep
step_of kind.Volume x = step.Volume (x.0) (x.1.0) (x.1.1.0) (x.1.1.1)
step_of kind.Commit x = step.Commit (x.0) (x.1.0) (x.1.1)
step_of kind.Delete x = step.Delete x
step_of kind.Move x = step.Move (x.0) (x.1.0) (x.1.1)
step_of kind.Free x = step.Free x
step_of kind.Reuse x = step.Reuse (x.0) (x.1.0) (x.1.1)

-- every step is one of its kind
form_of : (s : GroupStep) → (x : FieldsOf (kind_of s)) × (s ≡ step_of (kind_of s) x)
form_of (step.Volume vsn slot version size) = ((vsn, (slot, (version, size))), refl)
form_of (step.Commit b len chunks) = ((b, (len, chunks)), refl)
form_of (step.Delete b) = (b, refl)
form_of (step.Move b from to) = ((b, (from, to)), refl)
form_of (step.Free vsn) = (vsn, refl)
form_of (step.Reuse vsn epoch version) = ((vsn, (epoch, version)), refl)

pub of_kind : (k : StepKind) (s : GroupStep) → kind_of s ≡ k → (x : FieldsOf k) × (s ≡ step_of k x)
of_kind k s e = subst (λ q. (x : FieldsOf q) × (s ≡ step_of q x)) e (form_of s)

pub no_step : (k : StepKind) (f : FieldsOf k → List ℕ) (P : FieldsOf k → Type 0) → ((x : FieldsOf k) → step_fields (step_of k x) ≡ f x) → ((x : FieldsOf k) → FitsGroupStep (step_of k x) → P x) → (old new next : List ℕ) (error : ReadError) → IsRead f P old new (Err error) → IsRead step_fields (IsOfKind k) old next (Err error)
no_step k f P same fits old new next NoMemory absent = tt
no_step k f P same fits old new next Damaged absent = λ s rest is e.
    let form = of_kind k s is.0 in
    absent form.0 rest (fits form.0 (subst FitsGroupStep form.1 is.1)) (e ∙ ap (λ q. step_fields q ++ rest) form.1 ∙ ap (λ l. l ++ rest) (same form.0))
