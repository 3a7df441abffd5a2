-- Each step of a lock keeps its rule.
use Rattle.std.proofs.Common.{◌≡◌, ℕ, List, ◌∷◌, get_or, sym, refl, ◌∙◌, subst, arith, Option, Some, length-set, get_or-set_same}
use mathlib.Core.Logic.{dite}
use mathlib.Core.Option.{some}
use native.Mathlib.Decide.{ℕ_discrete}
use Rattle.atomic_table.specs.Table.{Me, Allows, Arrives}
use Rattle.atomic_table.specs.Table.Act.{keeps, takes, gives}
use Rattle.atomic_table.proofs.Lists.{set_here}
use Rattle.shared_tally.specs.Locks.{Guarded, Seized}

module _ {T V : Type 0} (fits : T → Type 0) where
  -- the lock is freed, with a value that fits
  pub releases : (id : ℕ) (me : Me (Option T) V) (v : V) (value : T) (more : List (ℕ × Option T)) → me ≡ (v, (0, Some value) ∷ more) → fits value
      → Allows (Guarded fits) 1 id me 0 (λ _. 0) (λ _ _. Unit {0})
  releases id me v value more e ok =
      let P : Me (Option T) V → Type 0 = λ x. Allows (Guarded fits) 1 id x 0 (λ _. 0) (λ _ _. Unit {0}) in
      subst P (sym e) (λ s kept wide at low. (v, gives, tt, (length-set s.words 0 0 ∙ kept.0, λ _. (value, set_here s.homes 0 (some (Some value)) (omega arith), ok)), tt))

  -- the word becomes 1; where it was 0, the value is taken out
  pub seizes : (slots : ℕ) (v : V) → Arrives (Guarded fits) slots 0 (λ _. 1) (λ found me. found ≡ 0 → Seized {V = V} fits me)
  seizes slots v s kept wide low =
      let long = kept.0 in
      let one = get_or-set_same s.words 0 1 0 (omega arith) in
      dite (ℕ_discrete (get_or s.words 0 0) 0)
      (λ free. let t = kept.1 free in (v, takes 0 (Some t.0), t.1, (length-set s.words 0 1 ∙ long, λ e. absurd (omega arith)), λ _. (t.0, refl, t.2)))
      (λ held. (v, keeps, tt, (length-set s.words 0 1 ∙ long, λ e. absurd (omega arith)), λ e. absurd (held e)))
