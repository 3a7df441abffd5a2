-- One call of a clock over memory adds its reading.
use Rattle.std.proofs.Common.{◌≡◌, inl, inr, ℕ, zero, suc, ◌+◌, ◌≤◌, min, List, [], ◌∷◌, ◌++◌, length, Option, Some, None, refl, sym, ◌∙◌, ap, subst, arith}
use Rattle.std.proofs.lemmas.Bool.{cases_eq}
use Rattle.std.proofs.lemmas.Bool.Decides.{nat_tests}
use Rattle.std.proofs.lemmas.List.{length_push}
use Rattle.dm_host.specs.Readings.{Adds, reading_at, first_readings, told_readings}

stops : (readings : List ℕ) (n : ℕ) → n ≡ 18446744073709551615 → told_readings readings n ≡ None
stops readings n is = grind (arith, nat_tests)

tells : (readings : List ℕ) (n : ℕ) → (n ≡ 18446744073709551615 → ⊥) → told_readings readings n ≡ Some (first_readings readings n)
tells readings n not = grind (arith, nat_tests)

length-first_readings : (readings : List ℕ) (n : ℕ) → length (first_readings readings n) ≡ n
length-first_readings readings zero = refl
length-first_readings readings (suc n) =
    length_push (first_readings readings n) (reading_at readings n) ∙ omega (arith, length-first_readings readings n)

one_more : (readings : List ℕ) (n m : ℕ) → m ≡ n + 1 → first_readings readings m ≡ first_readings readings n ++ reading_at readings n ∷ []
one_more readings n m is = let same : m ≡ suc n = omega arith in ap (first_readings readings) same

pub adds : (readings : List ℕ) (n : ℕ) → n ≤ 18446744073709551615 → Adds (told_readings readings n) (told_readings readings (min (n + 1) 18446744073709551615)) (reading_at readings n)
adds readings n fits =
    let m = min (n + 1) 18446744073709551615 in
    elim (cases_eq n 18446744073709551615) [
      | inl last ↦
          subst (λ (o : Option (List ℕ)). Adds o (told_readings readings m) (reading_at readings n)) (sym (stops readings n last)) (stops readings m (omega arith))
      | inr before ↦
          subst (λ (o : Option (List ℕ)). Adds o (told_readings readings m) (reading_at readings n)) (sym (tells readings n before)) (elim (cases_eq m 18446744073709551615) [
            | inl now ↦ inr (stops readings m now, omega (arith, length-first_readings readings n))
            | inr still ↦ inl (tells readings m still ∙ ap (λ (l : List ℕ). Some l) (one_more readings n m (omega arith)))
          ])
    ]
