-- Numbers in decimal digits, one digit more at a time.
use Rattle.std.proofs.Common.{◌≡◌, ℕ, ◌<◌, ◌≤◌, ◌+◌, ◌-◌, ◌*◌, ◌^◌, List, [], ◌∷◌, ◌++◌, length, get_or, take, sym, ◌∙◌, ap, subst, arith, lit<, add-one}
use Rattle.std.proofs.lemmas.Bool.{lt-ltb, le-ltb, cond-true, cond-false}
use Rattle.std.proofs.lemmas.List.{take_more}
use Rattle.std.proofs.lemmas.Int.Digits.{digits_value_more}
use Rattle.std.specs.Prelude.{nat_lt}
use Rattle.std.specs.Char.{IsAsciiDigit, digit_value}
use Rattle.std.specs.List.{AllByRecursion}
use Rattle.std.specs.Str.Parse.{digits_value}
use native.Mathlib.Nat.{pow-le-pow_right, pow-suc}

-- a digit stands for its distance from `0`
digit_value_is : (c : ℕ) → IsAsciiDigit c → digit_value c ≡ c - 48
digit_value_is c d = cond-false (nat_lt c 48) _ _ (le-ltb c 48 d.0) ∙ cond-true (nat_lt c 58) _ _ (lt-ltb c 58 (omega arith))

-- nineteen digits fit 64 bits
pub pow_more : (i : ℕ) → 10 ^ (i + 1) ≡ 10 ^ i * 10
pow_more i = ap (λ k. 10 ^ k) (add-one i) ∙ pow-suc 10 i

pub pow_fits : (i : ℕ) → i < 19 → 10 ^ i * 10 ≤ 10 ^ 19
pow_fits i l = subst (λ (k : ℕ). k ≤ 10 ^ 19) (pow-suc 10 i) (pow-le-pow_right {n = 10} (lit< tt) {j = 19} (omega arith))

pub digits_push : (ds : List ℕ) (i : ℕ) → i < length ds → AllByRecursion IsAsciiDigit (take i ds) → IsAsciiDigit (get_or ds i 0) → AllByRecursion IsAsciiDigit (take (i + 1) ds)
digits_push ds i l each d = subst (AllByRecursion IsAsciiDigit) (sym (take_more ds i 0 l)) (push (take i ds) each)
  where
    push : (xs : List ℕ) → AllByRecursion IsAsciiDigit xs → AllByRecursion IsAsciiDigit (xs ++ get_or ds i 0 ∷ [])
    push [] p = (d, tt)
    push (x ∷ xs) p = (p.0, push xs p.1)

pub value_push : (ds : List ℕ) (i : ℕ) → i < length ds → IsAsciiDigit (get_or ds i 0) → digits_value 10 (take (i + 1) ds) ≡ digits_value 10 (take i ds) * 10 + (get_or ds i 0 - 48)
value_push ds i l d = digits_value_more 10 ds i l ∙ ap (λ x. digits_value 10 (take i ds) * 10 + x) (digit_value_is (get_or ds i 0) d)
