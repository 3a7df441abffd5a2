-- A step is its kind and its fields: what could not be read as the fields of a kind is no step of that kind.
use Rattle.std.proofs.Common.{◌≡◌, ◌≤◌, ℕ, Bool, Err, Option, None, Some, List, ◌++◌, refl, sym, ap, subst, ◌∙◌, arith, cond, nat_eq}
use Rattle.dm_base.specs.declared.identifier.Bfid.{Bfid}
use Rattle.dm_base.specs.declared.identifier.GroupId.{GroupId}
use Rattle.dm_base.specs.declared.identifier.Ino.{Ino}
use Rattle.dm_durable.specs.Fields.{FitsStep}
use Rattle.dm_durable.specs.declared.daemon.DaemonStep.{DaemonStep}
use Rattle.dm_durable.specs.declared.daemon.DaemonStep.TheVariants as step
use Rattle.dm_fields.specs.Reading.{IsRead}
use Rattle.dm_fields.specs.declared.input.ReadError.{ReadError}
use Rattle.dm_fields.specs.declared.input.ReadError.TheVariants.{Damaged, NoMemory}
use Rattle.dm_fields.specs.declared.lists.ShortList.{ShortList}
use Rattle.dm_records.specs.declared.kinds.StepKind.{StepKind}
use Rattle.dm_records.specs.declared.kinds.StepKind.TheVariants as kind
use Rattle.dm_records.specs.Steps.{kind_of, step_byte, step_fields, IsOfKind}

-- what the records of a kind have
abbrev pub FieldsOf : StepKind → Type 0
FieldsOf kind.Write = List ℕ × (ℕ × List ℕ)
FieldsOf kind.Remove = List ℕ × ℕ
FieldsOf kind.BeginPut = List ℕ × (Bfid × ShortList GroupId)
FieldsOf kind.Stored = Bfid × GroupId
FieldsOf kind.EndPut = Ino × (Bfid × Bool)
FieldsOf kind.Release = List ℕ
FieldsOf kind.Taken = Ino × List ℕ
FieldsOf kind.Dump = List ℕ
FieldsOf kind.Undump = List ℕ
FieldsOf kind.Restore = List ℕ × (List ℕ × (List ℕ × ℕ))
FieldsOf kind.HardDelete = List Bfid
FieldsOf kind.Dropped = Bfid
FieldsOf kind.Restart = Unit {0}
FieldsOf kind.Age = ℕ

abbrev pub step_of : (k : StepKind) → FieldsOf k → DaemonStep
step_of kind.Write x = step.Write (x.0) (x.1.0) (x.1.1)
step_of kind.Remove x = step.Remove x.0 x.1
step_of kind.BeginPut x = step.BeginPut (x.0) (x.1.0) (x.1.1.items)
step_of kind.Stored x = step.Stored x.0 x.1
step_of kind.EndPut x = step.EndPut (x.0) (x.1.0) (x.1.1)
step_of kind.Release x = step.Release x
step_of kind.Taken x = step.Taken x.0 x.1
step_of kind.Dump x = step.Dump x
step_of kind.Undump x = step.Undump x
step_of kind.Restore x = step.Restore (x.0) (x.1.0) (x.1.1.0) (x.1.1.1)
step_of kind.HardDelete x = step.HardDelete x
step_of kind.Dropped x = step.Dropped x
step_of kind.Restart x = step.Restart
step_of kind.Age x = step.Age x

-- every step is one of its kind
form_of : (s : DaemonStep) → (x : FieldsOf (kind_of s)) × (s ≡ step_of (kind_of s) x)
form_of (step.Write path change bytes) = ((path, (change, bytes)), refl)
form_of (step.Remove path change) = ((path, change), refl)
form_of (step.BeginPut path b groups) = ((path, (b, record { items = groups })), refl)
form_of (step.Stored b group) = ((b, group), refl)
form_of (step.EndPut n b dual) = ((n, (b, dual)), refl)
form_of (step.Release path) = (path, refl)
form_of (step.Taken n bytes) = ((n, bytes), refl)
form_of (step.Dump name) = (name, refl)
form_of (step.Undump name) = (name, refl)
form_of (step.Restore name path target change) = ((name, (path, (target, change))), refl)
form_of (step.HardDelete bfids) = (bfids, refl)
form_of (step.Dropped b) = (b, refl)
form_of step.Restart = (tt, refl)
form_of (step.Age age) = (age, refl)

pub of_kind : (k : StepKind) (s : DaemonStep) → kind_of s ≡ k → (x : FieldsOf k) × (s ≡ step_of k x)
of_kind k s e = subst (λ q. (x : FieldsOf q) × (s ≡ step_of q x)) e (form_of s)

pub no_step : (k : StepKind) (f : FieldsOf k → List ℕ) (P : FieldsOf k → Type 0) → ((x : FieldsOf k) → step_fields (step_of k x) ≡ f x) → ((x : FieldsOf k) → FitsStep (step_of k x) → P x) → (old new next : List ℕ) (error : ReadError) → IsRead f P old new (Err error) → IsRead step_fields (IsOfKind k) old next (Err error)
no_step k f P same fits old new next NoMemory absent = tt
no_step k f P same fits old new next Damaged absent = λ s rest is e.
    let form = of_kind k s is.0 in
    absent form.0 rest (fits form.0 (subst FitsStep form.1 is.1)) (e ∙ ap (λ q. step_fields q ++ rest) form.1 ∙ ap (λ l. l ++ rest) (same form.0))

-- ---- the bytes of kinds

pub step_range : (k : StepKind) → (2 ≤ step_byte k) × (step_byte k ≤ 15)
step_range kind.Write = (omega arith, omega arith)
step_range kind.Remove = (omega arith, omega arith)
step_range kind.BeginPut = (omega arith, omega arith)
step_range kind.Stored = (omega arith, omega arith)
step_range kind.EndPut = (omega arith, omega arith)
step_range kind.Release = (omega arith, omega arith)
step_range kind.Taken = (omega arith, omega arith)
step_range kind.Dump = (omega arith, omega arith)
step_range kind.Undump = (omega arith, omega arith)
step_range kind.Restore = (omega arith, omega arith)
step_range kind.HardDelete = (omega arith, omega arith)
step_range kind.Dropped = (omega arith, omega arith)
step_range kind.Restart = (omega arith, omega arith)
step_range kind.Age = (omega arith, omega arith)

-- the kind of a byte
kind_at : ℕ → Option StepKind
kind_at n =
    cond (nat_eq n 2) (Some kind.Write) (cond (nat_eq n 3) (Some kind.Remove) (cond (nat_eq n 4) (Some kind.BeginPut) (cond (nat_eq n 5) (Some kind.Stored) (cond (nat_eq n 6) (Some kind.EndPut) (cond (nat_eq n 7) (Some kind.Release) (cond (nat_eq n 8) (Some kind.Taken) (cond (nat_eq n 9) (Some kind.Dump) (cond (nat_eq n 10) (Some kind.Undump) (cond (nat_eq n 11) (Some kind.Restore) (cond (nat_eq n 12) (Some kind.HardDelete) (cond (nat_eq n 13) (Some kind.Dropped) (cond (nat_eq n 14) (Some kind.Restart) (cond (nat_eq n 15) (Some kind.Age) None)))))))))))))

kind_at-step_byte : (k : StepKind) → kind_at (step_byte k) ≡ Some k
unfolding kind_at
kind_at-step_byte kind.Write = refl
kind_at-step_byte kind.Remove = refl
kind_at-step_byte kind.BeginPut = refl
kind_at-step_byte kind.Stored = refl
kind_at-step_byte kind.EndPut = refl
kind_at-step_byte kind.Release = refl
kind_at-step_byte kind.Taken = refl
kind_at-step_byte kind.Dump = refl
kind_at-step_byte kind.Undump = refl
kind_at-step_byte kind.Restore = refl
kind_at-step_byte kind.HardDelete = refl
kind_at-step_byte kind.Dropped = refl
kind_at-step_byte kind.Restart = refl
kind_at-step_byte kind.Age = refl

pub one_kind : (k q : StepKind) → step_byte k ≡ step_byte q → k ≡ q
one_kind k q e = let same : Some k ≡ Some q = sym (kind_at-step_byte k) ∙ ap kind_at e ∙ kind_at-step_byte q in cc
