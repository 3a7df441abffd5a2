-- A text of hexadecimal digits and its value: each is that of the other.
use Rattle.std.proofs.Common.{◌≡◌, ℕ, zero, suc, ◌+◌, ◌-◌, ◌*◌, ◌^◌, ◌<◌, ◌≤◌, ◌/◌, ◌%◌, List, [], ◌∷◌, ◌++◌, length, get_or, take, refl, sym, ◌∙◌, ap, subst, arith, length-append, add-one, lit<}
use Rattle.std.proofs.lemmas.Bool.{and_parts, and_from}
use Rattle.std.proofs.lemmas.Bool.Decides.{nat_tests}
use Rattle.std.proofs.lemmas.List.{take_all, take_at, get_or-append_right}
use Rattle.std.proofs.lemmas.Int.Digits.{digits_value_more}
use Rattle.std.specs.Prelude.{IsTrue}
use Rattle.std.specs.Char.{digit_value}
use Rattle.std.specs.Str.Parse.{digits_value}
use Rattle.dm_base.specs.Hexadecimal.{hexadecimal, hexadecimal_digit}
use Rattle.dm_base.proofs.Digits.{hexadecimal-none, digits_more, power_more}
use Rattle.dm_proto.specs.Found.{is_hexadecimal, are_hexadecimal}

-- the lowest digit stands last
hexadecimal-suc : (k n : ℕ) → hexadecimal (suc k) n ≡ hexadecimal k (n / 16) ++ hexadecimal_digit (n % 16) ∷ []
unfolding hexadecimal
hexadecimal-suc k n = refl

-- a digit stands for a value below 16, of which it is the digit
pub record IsValued (byte : ℕ) : Type 0 where
  pub small : digit_value byte < 16
  pub spelled : hexadecimal_digit (digit_value byte) ≡ byte

pub valued : (byte : ℕ) → IsTrue (is_hexadecimal byte) → IsValued byte
valued byte t = record { small = grind (arith, nat_tests); spelled = grind (arith, nat_tests) }

pub value_of_digit : (d : ℕ) → d < 16 → digit_value (hexadecimal_digit d) ≡ d
value_of_digit d small = grind (arith, nat_tests)

pub is_hexadecimal_digit : (d : ℕ) → d < 16 → IsTrue (is_hexadecimal (hexadecimal_digit d))
is_hexadecimal_digit d small = grind (arith, nat_tests)

-- one digit more behind a text
value-push : (front : List ℕ) (b : ℕ) → digits_value 16 (front ++ b ∷ []) ≡ digits_value 16 front * 16 + digit_value b
value-push front b =
    let text = front ++ b ∷ [] in
    let n = length front in
    let longer : n < length text = omega (arith, length-append front (b ∷ [])) in
    let whole : take (n + 1) text ≡ text = take_all (n + 1) text (omega (arith, length-append front (b ∷ []))) in
    let begins : take n text ≡ front = take_at front (b ∷ []) n refl in
    let place : n - n ≡ 0 = omega arith in
    let at : get_or text n 0 ≡ b = get_or-append_right front (b ∷ []) n n 0 refl (omega arith) ∙ ap (λ (i : ℕ). get_or (b ∷ []) i 0) place in
    ap (digits_value 16) (sym whole) ∙ digits_value_more 16 text n longer
    ∙ ap (λ (x : List ℕ). digits_value 16 x * 16 + digit_value (get_or text n 0)) begins
    ∙ ap (λ (x : ℕ). digits_value 16 front * 16 + digit_value x) at

are_hexadecimal-append : (a b : List ℕ) → IsTrue (are_hexadecimal a) → IsTrue (are_hexadecimal b) → IsTrue (are_hexadecimal (a ++ b))
are_hexadecimal-append [] b p q = q
are_hexadecimal-append (x ∷ a) b p q =
    let parts = and_parts (is_hexadecimal x) (are_hexadecimal a) p in and_from _ _ parts.0 (are_hexadecimal-append a b parts.1 q)

pub are_hexadecimal-digits : (k n : ℕ) → IsTrue (are_hexadecimal (hexadecimal k n))
are_hexadecimal-digits zero n = subst (λ (t : List ℕ). IsTrue (are_hexadecimal t)) (sym (hexadecimal-none n)) refl
are_hexadecimal-digits (suc k) n =
    subst (λ (t : List ℕ). IsTrue (are_hexadecimal t)) (sym (hexadecimal-suc k n))
    (
    are_hexadecimal-append (hexadecimal k (n / 16)) (hexadecimal_digit (n % 16) ∷ []) (are_hexadecimal-digits k (n / 16))
    (and_from _ _ (is_hexadecimal_digit (n % 16) (omega arith)) refl)
    )

-- the value of the digits of a number is the number
pub value-hexadecimal : (k n : ℕ) → n < 16 ^ k → digits_value 16 (hexadecimal k n) ≡ n
value-hexadecimal zero n small =
    let none : n ≡ 0 = omega (arith, small) in ap (digits_value 16) (hexadecimal-none n) ∙ sym none
value-hexadecimal (suc k) n small =
    let power : 16 ^ (suc k) ≡ 16 ^ k * 16 = ap (λ (j : ℕ). 16 ^ j) (sym (add-one k)) ∙ power_more k in
    let front : n / 16 < 16 ^ k = omega (arith, small, power) in
    let d : n % 16 < 16 = omega arith in
    let whole : n / 16 * 16 + n % 16 ≡ n = omega arith in
    ap (digits_value 16) (hexadecimal-suc k n) ∙ value-push (hexadecimal k (n / 16)) (hexadecimal_digit (n % 16))
    ∙ ap (λ (x : ℕ). x * 16 + digit_value (hexadecimal_digit (n % 16))) (value-hexadecimal k (n / 16) front)
    ∙ ap (λ (x : ℕ). n / 16 * 16 + x) (value_of_digit (n % 16) d) ∙ whole

-- each byte of a text of digits is one
pub digit_there : (text : List ℕ) (i : ℕ) → IsTrue (are_hexadecimal text) → i < length text → IsTrue (is_hexadecimal (get_or text i 0))
digit_there [] i t l = absurd (omega (arith, l))
digit_there (b ∷ bs) zero t l = (and_parts _ _ t).0
digit_there (b ∷ bs) (suc i) t l = digit_there bs i (and_parts _ _ t).1 (omega (arith, l))

-- the digits of the value of a text are the text
pub record IsRead (text : List ℕ) (i : ℕ) : Type 0 where
  pub small : digits_value 16 (take i text) < 16 ^ i
  pub spelled : hexadecimal i (digits_value 16 (take i text)) ≡ take i text

pub read_so_far : (text : List ℕ) (i : ℕ) → IsTrue (are_hexadecimal text) → i ≤ length text → IsRead text i
read_so_far text zero t l = record { small = lit< tt; spelled = hexadecimal-none (digits_value 16 (take 0 text)) }
read_so_far text (suc i) t l =
    let before = read_so_far text i t (omega (arith, l)) in
    let within : i < length text = omega (arith, l) in
    let v = valued (get_or text i 0) (digit_there text i t within) in
    let value : digits_value 16 (take (i + 1) text) ≡ digits_value 16 (take i text) * 16 + digit_value (get_or text i 0) = digits_value_more 16 text i within in
    subst (IsRead text) (add-one i)
    (
    record {
      small = omega (arith, value, before.small, v.small, power_more i);
      spelled = ap (hexadecimal (i + 1)) value
          ∙ digits_more text i (digits_value 16 (take i text)) (digit_value (get_or text i 0)) within v.small v.spelled before.spelled;
    }
    )
