-- Numbers of so many bytes: the bytes that were read as a number are its spelling.
use Rattle.std.proofs.Common.{◌≡◌, ℕ, suc, zero, ◌+◌, ◌*◌, ◌/◌, ◌%◌, ◌^◌, ◌<◌, List, [], ◌∷◌, length, get_or, refl, sym, ap, ◌∙◌, arith}
use Rattle.std.specs.Int.{bytes_high_first, byte_at}
use Rattle.std.proofs.lemmas.Nat.{div-mul-add}
use Rattle.std.proofs.Math.Nat.{mul-add-div_right, mul-add-mod_self_left, mod-eq_of_lt, pow-succ', div-one, one-le-pow}
use Rattle.byteorder.specs.Numbers.{big_from-cons, big_from-lt}
use Rattle.byteorder.specs.Endian.{big_from}
use Rattle.dm_fields.specs.Numbers.{big_endian}

byte_at-pow : (k x : ℕ) → byte_at k x ≡ x / 256 ^ k % 256
byte_at-pow zero x = ap (λ (y : ℕ). y % 256) (sym (div-one x))
byte_at-pow (suc k) x = refl

some_power : (n : ℕ) → 0 < 256 ^ n
some_power n = let h = one-le-pow n 256 (omega arith) in omega arith

-- a byte of the lower part
low_byte : (hi lo p : ℕ) → 0 < p → (hi * (256 * p) + lo) / p % 256 ≡ lo / p % 256
low_byte hi lo p some =
    let regroup : hi * (256 * p) + lo ≡ (256 * hi) * p + lo = grind arith in
    ap (λ n. n / p % 256) regroup ∙ ap (λ n. n % 256) (mul-add-div_right some (256 * hi) lo) ∙ mul-add-mod_self_left 256 hi (lo / p)

-- the lowest bytes don't know of what stands above them
lowest : (k m n : ℕ) → bytes_high_first k (m * 256 ^ k + n) ≡ bytes_high_first k n
lowest zero m n = refl
lowest (suc k) m n =
    let power : 256 ^ suc k ≡ 256 * 256 ^ k = pow-succ' 256 k in
    let whole : m * 256 ^ suc k + n ≡ m * (256 * 256 ^ k) + n = ap (λ p. m * p + n) power in
    let byte : byte_at k (m * 256 ^ suc k + n) ≡ byte_at k n =
    byte_at-pow k (m * 256 ^ suc k + n) ∙ ap (λ x. x / 256 ^ k % 256) whole ∙ low_byte m n (256 ^ k) (some_power k) ∙ sym (byte_at-pow k n) in
    let rest : bytes_high_first k (m * 256 ^ suc k + n) ≡ bytes_high_first k n =
    ap (bytes_high_first k) (whole ∙ grouped m (256 ^ k) n) ∙ lowest k (m * 256) n in
    λ i. byte i ∷ rest i
  where
    grouped : (m p n : ℕ) → m * (256 * p) + n ≡ (m * 256) * p + n
    grouped m p n = grind arith

pub number_back : (width : ℕ) (bytes : List ℕ) → length bytes ≡ width → ((i : ℕ) → get_or bytes i 0 < 256) → big_endian width (big_from 0 width bytes) ≡ bytes
unfolding big_endian
number_back zero [] long small = refl
number_back zero (b ∷ bytes) long small = absurd (omega arith)
number_back (suc w) [] long small = absurd (omega arith)
number_back (suc w) (b ∷ bytes) long small =
    let n : ℕ = big_from 0 w bytes in
    let below : n < 256 ^ w = big_from-lt 0 w bytes (λ i. small (suc i)) in
    let number : big_from 0 (suc w) (b ∷ bytes) ≡ b * 256 ^ w + n = ap (λ x. b * 256 ^ w + x) (big_from-cons 0 w b bytes) in
    let byte : byte_at w (b * 256 ^ w + n) ≡ b =
    byte_at-pow w (b * 256 ^ w + n) ∙ ap (λ x. x % 256) (div-mul-add b (256 ^ w) n below) ∙ mod-eq_of_lt (small 0) in
    let rest : bytes_high_first w (b * 256 ^ w + n) ≡ bytes = lowest w b n ∙ number_back w bytes (omega arith) (λ i. small (suc i)) in
    ap (bytes_high_first (suc w)) number ∙ (λ i. byte i ∷ rest i)
