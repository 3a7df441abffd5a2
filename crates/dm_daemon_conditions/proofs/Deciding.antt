-- Tests of numbers, options and pairs, as facts.
use Rattle.std.proofs.Common.{◌≡◌, ◌⊎◌, ℕ, ◌+◌, ◌<◌, ◌≤◌, Bool, true, false, not, ◌&&◌, ◌||◌, Option, None, Some, is_some, is_none, IsSome, List, [], ◌∷◌, length, refl, sym, ap, ◌∙◌, inl, inr, nat_eq, nat_le, nat_lt, arith, IsTrue}
use Rattle.std.proofs.lemmas.Bool.{ltb-true, lt-ltb, leb-true, le-leb, eqb-true, eq-eqb}
use Rattle.std.specs.Prelude.{◌↔◌}
use Rattle.std.specs.Bool.{beq}

-- of a pair of tests the facts of both
pub both_tests : {P Q : Type 0} (a b : Bool) → IsTrue a ↔ P → IsTrue b ↔ Q → IsTrue (a && b) ↔ (P × Q)
both_tests true b p q = (λ h. (p.0 refl, q.0 h), λ h. q.1 h.1)
both_tests false b p q = (λ h. cc, λ h. p.1 h.0)

pub either_test : {P Q : Type 0} (a b : Bool) → IsTrue a ↔ P → IsTrue b ↔ Q → IsTrue (a || b) ↔ (P ⊎ Q)
either_test {P} {Q} true b p q = (λ h. inl (p.0 refl), λ h. refl)
either_test {P} {Q} false b p q = (λ h. inr (q.0 h), back)
  where
    back : P ⊎ Q → IsTrue b
    back (inl h) = let f = p.1 h in cc
    back (inr h) = q.1 h

pub less_test : (m n : ℕ) → IsTrue (nat_lt m n) ↔ (m < n)
less_test m n = (ltb-true m n, lt-ltb m n)

pub most_test : (m n : ℕ) → IsTrue (nat_le m n) ↔ (m ≤ n)
most_test m n = (leb-true m n, le-leb m n)

pub equal_test : (m n : ℕ) → IsTrue (nat_eq m n) ↔ (m ≡ n)
equal_test m n = (eqb-true m n, eq-eqb m n)

pub not_test : (b : Bool) → IsTrue (not b) ↔ (b ≡ false)
not_test true = (λ h. cc, λ h. cc)
not_test false = (λ h. refl, λ h. refl)

pub same_test : (a b : Bool) → IsTrue (beq a b) ↔ (a ≡ b)
same_test true true = (λ h. refl, λ h. refl)
same_test true false = (λ h. cc, λ h. cc)
same_test false true = (λ h. cc, λ h. cc)
same_test false false = (λ h. refl, λ h. refl)

pub some_test : {X : Type 0} (o : Option X) → IsTrue (is_some o) ↔ IsSome o
some_test None = (λ h. h, λ h. h)
some_test (Some x) = (λ h. h, λ h. h)

pub none_test : {X : Type 0} (o : Option X) → IsTrue (is_none o) ↔ (o ≡ None)
none_test None = (λ h. refl, λ h. refl)
none_test (Some x) = (λ h. cc, λ h. cc)

pub other_fact : {P Q R : Type 0} → P ↔ Q → Q ↔ R → P ↔ R
other_fact f g = (λ p. g.0 (f.0 p), λ r. f.1 (g.1 r))
