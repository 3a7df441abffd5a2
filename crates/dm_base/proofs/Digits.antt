-- Hexadecimal digits, one at a time from the lowest.
use Rattle.std.proofs.Common.{◌≡◌, ℕ, ◌+◌, ◌-◌, ◌*◌, ◌^◌, ◌<◌, ◌≤◌, ◌/◌, ◌%◌, inl, inr, List, [], ◌∷◌, ◌++◌, length, get_or, take, drop, set, refl, sym, ◌∙◌, ap, subst, arith, append_assoc, length-append, add-one, zero, suc, lit<}
use Rattle.std.proofs.lemmas.Bool.{cases_lt}
use Rattle.std.proofs.lemmas.List.{drop-set, take_more, get_or_append_left, get_or-append_right}
use native.Mathlib.Nat.{pow-le-pow_right, pow-suc}
use Rattle.dm_base.specs.Hexadecimal.{hexadecimal, hexadecimal_digit}

hexadecimal-suc : (k n : ℕ) → hexadecimal (suc k) n ≡ hexadecimal k (n / 16) ++ hexadecimal_digit (n % 16) ∷ []
unfolding hexadecimal
hexadecimal-suc k n = refl

-- at a list whose end from k + 1 on is written, the digit at k is written
digit_at : (k n d : ℕ) (text : List ℕ) → k < length text → d ≡ hexadecimal_digit (n % 16) → hexadecimal k (n / 16) ++ drop k (set text k d) ≡ hexadecimal (k + 1) n ++ drop (k + 1) text
digit_at k n d text within is =
    ap (λ (end : List ℕ). hexadecimal k (n / 16) ++ end) (drop-set text k d within)
    ∙ ap (λ (x : ℕ). hexadecimal k (n / 16) ++ (x ∷ drop (k + 1) text)) is
    ∙ sym (append_assoc (hexadecimal k (n / 16)) (hexadecimal_digit (n % 16) ∷ []) (drop (k + 1) text))
    ∙ ap (λ (front : List ℕ). front ++ drop (k + 1) text) (sym (hexadecimal-suc k n) ∙ ap (λ (j : ℕ). hexadecimal j n) (sym (add-one k)))

-- the same, counted by how many digits stand
pub digit_written : (w n d : ℕ) (text : List ℕ) → w < 32 → length text ≡ 32 → d ≡ hexadecimal_digit (n % 16)
    → hexadecimal (32 - (w + 1)) (n / 16) ++ drop (32 - (w + 1)) (set text (31 - w) d) ≡ hexadecimal (32 - w) n ++ drop (32 - w) text
digit_written w n d text small all is =
    let before : 32 - (w + 1) ≡ 31 - w = omega arith in
    let after : (31 - w) + 1 ≡ 32 - w = omega arith in
    ap (λ (k : ℕ). hexadecimal k (n / 16) ++ drop k (set text (31 - w) d)) before
    ∙ digit_at (31 - w) n d text (omega arith) is
    ∙ ap (λ (k : ℕ). hexadecimal k n ++ drop k text) after

pub hexadecimal-zero : (k n : ℕ) (text : List ℕ) → k ≡ 0 → hexadecimal k n ++ drop k text ≡ text
unfolding hexadecimal
hexadecimal-zero k n text e = ap (λ (j : ℕ). hexadecimal j n ++ drop j text) e

pub length-hexadecimal : (k n : ℕ) → length (hexadecimal k n) ≡ k
unfolding hexadecimal
length-hexadecimal zero n = refl
length-hexadecimal (suc k) n = length-append (hexadecimal k (n / 16)) (hexadecimal_digit (n % 16) ∷ []) ∙ ap (λ (l : ℕ). l + 1) (length-hexadecimal k (n / 16)) ∙ add-one k

-- one digit more, at the lowest place
pub hexadecimal-next : (k value d : ℕ) → d < 16 → hexadecimal (k + 1) (value * 16 + d) ≡ hexadecimal k value ++ hexadecimal_digit d ∷ []
hexadecimal-next k value d small =
    let up : (value * 16 + d) / 16 ≡ value = omega (arith, small) in
    let low : (value * 16 + d) % 16 ≡ d = omega (arith, small) in
    ap (λ (j : ℕ). hexadecimal j (value * 16 + d)) (add-one k) ∙ hexadecimal-suc k (value * 16 + d)
    ∙ ap (λ (m : ℕ). hexadecimal k m ++ hexadecimal_digit ((value * 16 + d) % 16) ∷ []) up
    ∙ ap (λ (m : ℕ). hexadecimal k value ++ hexadecimal_digit m ∷ []) low

-- each place has the digit of a value below 16
pub record IsDigitAt (text : List ℕ) (i : ℕ) : Type 0 where
  pub value : ℕ
  pub small : value < 16
  pub is : get_or text i 0 ≡ hexadecimal_digit value

pub digit_in : (k n i : ℕ) → i < k → IsDigitAt (hexadecimal k n) i
digit_in zero n i l = absurd (omega (arith, l))
digit_in (suc k) n i l =
    let front = hexadecimal k (n / 16) in
    let last = hexadecimal_digit (n % 16) ∷ [] in
    let fits : length front ≡ k = length-hexadecimal k (n / 16) in
    subst (λ (x : List ℕ). IsDigitAt x i) (sym (hexadecimal-suc k n))
    (
    elim (cases_lt i k) [
      | inl below ↦
          let d = digit_in k (n / 16) i below in
          let here : get_or (front ++ last) i 0 ≡ get_or front i 0 = get_or_append_left front last 0 i (omega (arith, fits, below)) in
          record { value = d.value; small = d.small; is = here ∙ d.is }
      | inr over ↦
          let zeroth : i - k ≡ 0 = omega (arith, l, over) in
          let here : get_or (front ++ last) i 0 ≡ get_or last (i - k) 0 = get_or-append_right front last k i 0 fits over in
          record { value = n % 16; small = omega arith; is = here ∙ ap (λ (j : ℕ). get_or last j 0) zeroth }
    ]
    )

-- thirty-two digits fit 128 bits
pub power_fits : (i : ℕ) → i < 32 → 16 ^ i * 16 ≤ 16 ^ 32
power_fits i l = subst (λ (k : ℕ). k ≤ 16 ^ 32) (pow-suc 16 i) (pow-le-pow_right {n = 16} (lit< tt) {j = 32} (omega arith))

pub power_more : (i : ℕ) → 16 ^ (i + 1) ≡ 16 ^ i * 16
power_more i = ap (λ k. 16 ^ k) (add-one i) ∙ pow-suc 16 i

-- no digits at all
pub hexadecimal-none : (n : ℕ) → hexadecimal 0 n ≡ []
unfolding hexadecimal
hexadecimal-none n = refl

-- the digits of a text so far, and the next
pub digits_more : (text : List ℕ) (i value d : ℕ) → i < length text → d < 16 → hexadecimal_digit d ≡ get_or text i 0 → hexadecimal i value ≡ take i text
    → hexadecimal (i + 1) (value * 16 + d) ≡ take (i + 1) text
digits_more text i value d within small is so_far =
    hexadecimal-next i value d small ∙ ap (λ (front : List ℕ). front ++ hexadecimal_digit d ∷ []) so_far
    ∙ ap (λ (b : ℕ). take i text ++ b ∷ []) is ∙ sym (take_more text i 0 within)
