-- What is left of a session, from one stage to the next.
use Rattle.std.proofs.Common.{◌≡◌, ℕ, zero, suc, ◌+◌, ◌-◌, ◌/◌, ◌%◌, ◌<◌, ◌≤◌, Bool, true, false, not, ◌&&◌, ◌||◌, IsTrue, cond, nat_le, List, [], ◌∷◌, ◌++◌, filter, map, refl, ap, sym, ◌∙◌, arith, rules}
use Rattle.std.specs.List.{flat_map}
use Rattle.std.proofs.lemmas.Bool.{eq-eqb, ne_eqb, le-leb, lt-leb}
use Rattle.dm_base.specs.Naming.{IsPath, is_name_byte}
use Rattle.dm_base.specs.declared.command.Command.{Command}
use Rattle.dm_base.specs.declared.command.Command.TheVariants.{Write, PutRelease, Remove, Read}
use Rattle.dm_gen.specs.declared.stage.Stage.{Stage}
use Rattle.dm_gen.specs.declared.stage.Stage.TheVariants as stage
use Rattle.dm_gen.specs.Session.{counted, numbers, path_of, bytes_of, stores, upkeep, removed, read, is_third, session}
use Rattle.dm_gen.specs.Stages.{from, left_of, behind_stores}

pub from_on : (n i : ℕ) → i ≤ n → from n i ≡ i ∷ from n (i + 1)
from_on n i h =
    let e : n + 1 - i ≡ suc (n + 1 - (i + 1)) = omega arith in
    ap (λ k. counted k i) e

pub left_write : (n i : ℕ) → i ≤ n → left_of n (stage.Write i) ≡ Write (path_of i) (bytes_of i) ∷ left_of n (stage.Put i)
left_write n i h = ap (λ is. flat_map stores is ++ behind_stores n) (from_on n i h)

third_first : (i : ℕ) (is : List ℕ) (b : Bool) → is_third i ≡ b → removed (i ∷ is) ≡ cond b (Remove (path_of i) ∷ removed is) (removed is)
third_first i is true e = rw e refl
third_first i is false e = rw e refl

other_first : (i : ℕ) (is : List ℕ) (b : Bool) → is_third i ≡ b → read (i ∷ is) ≡ cond b (read is) (Read (path_of i) ∷ read is)
other_first i is true e = rw e refl
other_first i is false e = rw e refl

pub left_remove : (n i : ℕ) → i ≤ n → is_third i ≡ true → left_of n (stage.Remove i) ≡ Remove (path_of i) ∷ left_of n (stage.Remove (i + 1))
left_remove n i h e =
    ap (λ is. removed is ++ (upkeep ++ read (numbers n))) (from_on n i h) ∙ ap (λ cs. cs ++ (upkeep ++ read (numbers n))) (third_first i (from n (i + 1)) true e)

pub skip_remove : (n i : ℕ) → i ≤ n → is_third i ≡ false → left_of n (stage.Remove (i + 1)) ≡ left_of n (stage.Remove i)
skip_remove n i h e =
    sym (ap (λ is. removed is ++ (upkeep ++ read (numbers n))) (from_on n i h) ∙ ap (λ cs. cs ++ (upkeep ++ read (numbers n))) (third_first i (from n (i + 1)) false e))

pub left_read : (n i : ℕ) → i ≤ n → is_third i ≡ false → left_of n (stage.Read i) ≡ Read (path_of i) ∷ left_of n (stage.Read (i + 1))
left_read n i h e = ap read (from_on n i h) ∙ other_first i (from n (i + 1)) false e

pub skip_read : (n i : ℕ) → i ≤ n → is_third i ≡ true → left_of n (stage.Read (i + 1)) ≡ left_of n (stage.Read i)
skip_read n i h e = sym (ap read (from_on n i h) ∙ other_first i (from n (i + 1)) true e)

pub a_third : (i : ℕ) → i % 3 ≡ 0 → is_third i ≡ true
a_third i e = eq-eqb (i % 3) 0 e

pub no_third : (i : ℕ) → (i % 3 ≡ 0 → ⊥) → is_third i ≡ false
no_third i h = ne_eqb (i % 3) 0 h

negated : (b : Bool) → not b ≡ true → b ≡ false
negated true h = sym h
negated false h = refl

pub not_third : (i : ℕ) → not (is_third i) ≡ true → is_third i ≡ false
not_third i h = negated (is_third i) h

-- a digit is a byte of a name
one_of_six : (a b c d e f p q r : Bool) → a ≡ false → c ≡ false → e ≡ true → f ≡ true → ((a && b) || (c && d) || (e && f) || p || q || r) ≡ true
one_of_six a b c d e f p q r ha hc he hf = rw (ha, hc, he, hf) refl

digit_in_name : (d : ℕ) → d ≤ 9 → IsTrue (is_name_byte (48 + d))
digit_in_name d h =
    one_of_six (nat_le 65 (48 + d)) (nat_le (48 + d) 90) (nat_le 97 (48 + d)) (nat_le (48 + d) 122) (nat_le 48 (48 + d)) (nat_le (48 + d) 57) _ _ _
    (lt-leb 65 (48 + d) (omega arith)) (lt-leb 97 (48 + d) (omega arith)) (le-leb 48 (48 + d) (omega arith)) (le-leb (48 + d) 57 (omega arith))

pub is_path : (a b c d : ℕ) → a ≤ 9 → b ≤ 9 → c ≤ 9 → d ≤ 9 → IsPath (47 ∷ 103 ∷ 47 ∷ (48 + a) ∷ (48 + b) ∷ (48 + c) ∷ (48 + d) ∷ [])
is_path a b c d ha hb hc hd = record {
  names = (103 ∷ []) ∷ ((48 + a) ∷ (48 + b) ∷ (48 + c) ∷ (48 + d) ∷ []) ∷ [];
  some = omega arith;
  each = (record { some = omega arith; bytes = (refl, tt) }, (record { some = omega arith; bytes = (digit_in_name a ha, (digit_in_name b hb, (digit_in_name c hc, (digit_in_name d hd, tt)))) }, tt));
  spelled = refl;
  fits = omega arith;
}
