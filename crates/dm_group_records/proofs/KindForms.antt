-- The bytes of kinds: each is the byte of one kind.
use Rattle.std.proofs.Common.{◌≡◌, ◌≤◌, arith, ◌⊎◌, inl, inr, ℕ, Option, None, Some, refl, sym, ap, ◌∙◌, cond, nat_eq}
use Rattle.dm_group_records.specs.declared.kinds.StepKind.{StepKind}
use Rattle.dm_group_records.specs.declared.kinds.StepKind.TheVariants as kind
use Rattle.dm_group_records.specs.declared.kinds.OldKind.{OldKind}
use Rattle.dm_group_records.specs.declared.kinds.OldKind.TheVariants as old
use Rattle.dm_group_records.specs.Steps.{step_byte}
use Rattle.dm_group_records.specs.OldSteps.{old_byte}

-- the kind of a byte
kind_at : ℕ → Option (StepKind ⊎ OldKind)
kind_at n =
    cond (nat_eq n 10) (Some (inl kind.Volume)) (cond (nat_eq n 8) (Some (inl kind.Commit)) (cond (nat_eq n 4) (Some (inl kind.Delete)) (cond (nat_eq n 9) (Some (inl kind.Move)) (cond (nat_eq n 6) (Some (inl kind.Free)) (cond (nat_eq n 11) (Some (inl kind.Reuse)) (cond (nat_eq n 2) (Some (inr old.Volume)) (cond (nat_eq n 3) (Some (inr old.Commit)) (cond (nat_eq n 5) (Some (inr old.Move)) (cond (nat_eq n 7) (Some (inr old.Reuse)) None)))))))))

at_step : (k : StepKind) → kind_at (step_byte k) ≡ Some (inl k)
unfolding kind_at
at_step kind.Volume = refl
at_step kind.Commit = refl
at_step kind.Delete = refl
at_step kind.Move = refl
at_step kind.Free = refl
at_step kind.Reuse = refl

at_old : (k : OldKind) → kind_at (old_byte k) ≡ Some (inr k)
unfolding kind_at
at_old old.Volume = refl
at_old old.Commit = refl
at_old old.Move = refl
at_old old.Reuse = refl

pub one_kind : (k q : StepKind) → step_byte k ≡ step_byte q → k ≡ q
one_kind k q e = let same : ◌≡◌ {A = Option (StepKind ⊎ OldKind)} (Some (inl k)) (Some (inl q)) = sym (at_step k) ∙ ap kind_at e ∙ at_step q in cc

pub one_old_kind : (k q : OldKind) → old_byte k ≡ old_byte q → k ≡ q
one_old_kind k q e = let same : ◌≡◌ {A = Option (StepKind ⊎ OldKind)} (Some (inr k)) (Some (inr q)) = sym (at_old k) ∙ ap kind_at e ∙ at_old q in cc

pub kinds_apart : (k : StepKind) (q : OldKind) → step_byte k ≡ old_byte q → ⊥
kinds_apart k q e = let same : ◌≡◌ {A = Option (StepKind ⊎ OldKind)} (Some (inl k)) (Some (inr q)) = sym (at_step k) ∙ ap kind_at e ∙ at_old q in cc

pub step_range : (k : StepKind) → (4 ≤ step_byte k) × (step_byte k ≤ 11)
step_range kind.Volume = (omega arith, omega arith)
step_range kind.Commit = (omega arith, omega arith)
step_range kind.Delete = (omega arith, omega arith)
step_range kind.Move = (omega arith, omega arith)
step_range kind.Free = (omega arith, omega arith)
step_range kind.Reuse = (omega arith, omega arith)

pub old_range : (k : OldKind) → (2 ≤ old_byte k) × (old_byte k ≤ 7)
old_range old.Volume = (omega arith, omega arith)
old_range old.Commit = (omega arith, omega arith)
old_range old.Move = (omega arith, omega arith)
old_range old.Reuse = (omega arith, omega arith)
