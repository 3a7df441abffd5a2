-- Numbers of four, eight and sixteen bytes: what was written is read again, and the other way round.
use Rattle.std.proofs.Common.{◌≡◌, ℕ, ◌+◌, ◌*◌, ◌/◌, ◌%◌, ◌^◌, ◌<◌, List, [], ◌∷◌, ◌++◌, length, get_or, take, drop, refl, sym, ap, ◌∙◌, arith, inl, inr}
use Rattle.std.specs.Int.{Width, w32, w64, w128, byte_len, from_be_bytes, to_be_bytes}
use Rattle.std.proofs.lemmas.Bool.{cases_lt}
use Rattle.std.proofs.lemmas.List.{take-append-drop, length-take, length-drop, get_or-drop, get_or-take, get_or_past}
use Rattle.std.proofs.lemmas.Nat.{be_bytes_4, be_bytes_8, div-mul-add, from_be_bytes-to_be_bytes_4, from_be_bytes-to_be_bytes_8}
use Rattle.std.proofs.Math.Nat.{div-div-eq-div-mul, mul-add-div_right, mul-add-mod_self_left}

abbrev pub IsBytes : List ℕ → Type 0
IsBytes bytes = (i : ℕ) → get_or bytes i 0 < 256

pub IsBytes-drop : (n : ℕ) (bytes : List ℕ) → IsBytes bytes → IsBytes (drop n bytes)
IsBytes-drop n bytes h i = rw get_or-drop (h (n + i))

pub IsBytes-take : (n : ℕ) (bytes : List ℕ) → IsBytes bytes → IsBytes (take n bytes)
IsBytes-take n bytes h i =
    elim (cases_lt i n) [
      | inl lt ↦ rw (get_or-take n bytes i 0 lt) (h i)
      | inr le ↦ rw (get_or_past (take n bytes) i 0 (omega (arith, length-take n bytes))) (omega arith)
    ]

-- a byte of the upper half
high_byte : (hi lo m p : ℕ) → lo < m → (hi * m + lo) / (m * p) % 256 ≡ hi / p % 256
high_byte hi lo m p below = ap (λ n. n % 256) (sym (div-div-eq-div-mul (hi * m + lo) m p) ∙ ap (λ n. n / p) (div-mul-add hi m lo below))

-- a byte of the lower half
low_byte : (hi lo q p : ℕ) → 0 < p → (hi * (q * 256 * p) + lo) / p % 256 ≡ lo / p % 256
low_byte hi lo q p some =
    let regroup : hi * (q * 256 * p) + lo ≡ (256 * (hi * q)) * p + lo = grind arith in
    ap (λ n. n / p % 256) regroup ∙ ap (λ n. n % 256) (mul-add-div_right some (256 * (hi * q)) lo) ∙ mul-add-mod_self_left 256 (hi * q) (lo / p)

-- sixteen bytes are the eight of the upper half and the eight of the lower
halves_written : (hi lo : ℕ) → lo < 2 ^ 64 → to_be_bytes w128 (hi * 2 ^ 64 + lo) ≡ to_be_bytes w64 hi ++ to_be_bytes w64 lo
halves_written hi lo below =
    let n : ℕ = hi * 2 ^ 64 + lo in
    let h0 : n / 256 ^ 8 % 256 ≡ hi % 256 = ap (λ m. m % 256) (div-mul-add hi (2 ^ 64) lo below) in
    let h1 : n / 256 ^ 9 % 256 ≡ hi / 256 ^ 1 % 256 = high_byte hi lo (2 ^ 64) (256 ^ 1) below in
    let h2 : n / 256 ^ 10 % 256 ≡ hi / 256 ^ 2 % 256 = high_byte hi lo (2 ^ 64) (256 ^ 2) below in
    let h3 : n / 256 ^ 11 % 256 ≡ hi / 256 ^ 3 % 256 = high_byte hi lo (2 ^ 64) (256 ^ 3) below in
    let h4 : n / 256 ^ 12 % 256 ≡ hi / 256 ^ 4 % 256 = high_byte hi lo (2 ^ 64) (256 ^ 4) below in
    let h5 : n / 256 ^ 13 % 256 ≡ hi / 256 ^ 5 % 256 = high_byte hi lo (2 ^ 64) (256 ^ 5) below in
    let h6 : n / 256 ^ 14 % 256 ≡ hi / 256 ^ 6 % 256 = high_byte hi lo (2 ^ 64) (256 ^ 6) below in
    let h7 : n / 256 ^ 15 % 256 ≡ hi / 256 ^ 7 % 256 = high_byte hi lo (2 ^ 64) (256 ^ 7) below in
    let l0 : n % 256 ≡ lo % 256 = omega arith in
    let l1 : n / 256 ^ 1 % 256 ≡ lo / 256 ^ 1 % 256 = low_byte hi lo (256 ^ 6) (256 ^ 1) (omega arith) in
    let l2 : n / 256 ^ 2 % 256 ≡ lo / 256 ^ 2 % 256 = low_byte hi lo (256 ^ 5) (256 ^ 2) (omega arith) in
    let l3 : n / 256 ^ 3 % 256 ≡ lo / 256 ^ 3 % 256 = low_byte hi lo (256 ^ 4) (256 ^ 3) (omega arith) in
    let l4 : n / 256 ^ 4 % 256 ≡ lo / 256 ^ 4 % 256 = low_byte hi lo (256 ^ 3) (256 ^ 4) (omega arith) in
    let l5 : n / 256 ^ 5 % 256 ≡ lo / 256 ^ 5 % 256 = low_byte hi lo (256 ^ 2) (256 ^ 5) (omega arith) in
    let l6 : n / 256 ^ 6 % 256 ≡ lo / 256 ^ 6 % 256 = low_byte hi lo (256 ^ 1) (256 ^ 6) (omega arith) in
    let l7 : n / 256 ^ 7 % 256 ≡ lo / 256 ^ 7 % 256 = low_byte hi lo 1 (256 ^ 7) (omega arith) in
    λ i. h7 i ∷ h6 i ∷ h5 i ∷ h4 i ∷ h3 i ∷ h2 i ∷ h1 i ∷ h0 i ∷ l7 i ∷ l6 i ∷ l5 i ∷ l4 i ∷ l3 i ∷ l2 i ∷ l1 i ∷ l0 i ∷ []

halves_read : (xs ys : List ℕ) → length xs ≡ 8 → from_be_bytes w128 (xs ++ ys) ≡ from_be_bytes w64 xs * 2 ^ 64 + from_be_bytes w64 ys
halves_read (a ∷ b ∷ c ∷ d ∷ e ∷ f ∷ g ∷ h ∷ []) ys l = omega arith
halves_read [] ys l = absurd (omega arith)
halves_read (a ∷ []) ys l = absurd (omega arith)
halves_read (a ∷ b ∷ []) ys l = absurd (omega arith)
halves_read (a ∷ b ∷ c ∷ []) ys l = absurd (omega arith)
halves_read (a ∷ b ∷ c ∷ d ∷ []) ys l = absurd (omega arith)
halves_read (a ∷ b ∷ c ∷ d ∷ e ∷ []) ys l = absurd (omega arith)
halves_read (a ∷ b ∷ c ∷ d ∷ e ∷ f ∷ []) ys l = absurd (omega arith)
halves_read (a ∷ b ∷ c ∷ d ∷ e ∷ f ∷ g ∷ []) ys l = absurd (omega arith)
halves_read (a ∷ b ∷ c ∷ d ∷ e ∷ f ∷ g ∷ h ∷ x ∷ xs) ys l = absurd (omega arith)

below_64 : (bytes : List ℕ) → IsBytes bytes → from_be_bytes w64 bytes < 2 ^ 64
below_64 bytes fits = omega (arith, fits 0, fits 1, fits 2, fits 3, fits 4, fits 5, fits 6, fits 7)

be_bytes_16 : (bytes : List ℕ) → length bytes ≡ 16 → IsBytes bytes → to_be_bytes w128 (from_be_bytes w128 bytes) ≡ bytes
be_bytes_16 bytes long fits =
    let xs = take 8 bytes in
    let ys = drop 8 bytes in
    let long_x : length xs ≡ 8 = omega (arith, length-take 8 bytes) in
    let long_y : length ys ≡ 8 = omega (arith, length-drop 8 bytes) in
    let fits_x = IsBytes-take 8 bytes fits in
    let fits_y = IsBytes-drop 8 bytes fits in
    let read = ap (from_be_bytes w128) (sym (take-append-drop 8 bytes)) ∙ halves_read xs ys long_x in
    ap (to_be_bytes w128) read ∙ halves_written (from_be_bytes w64 xs) (from_be_bytes w64 ys) (below_64 ys fits_y)
    ∙ ap (λ front. front ++ to_be_bytes w64 (from_be_bytes w64 ys)) (be_bytes_8 xs _ long_x fits_x refl)
    ∙ ap (λ back. xs ++ back) (be_bytes_8 ys _ long_y fits_y refl)
    ∙ take-append-drop 8 bytes

read_16 : (n : ℕ) → n < 2 ^ 128 → from_be_bytes w128 (to_be_bytes w128 n) ≡ n
read_16 n below =
    let hi = n / 2 ^ 64 in
    let lo = n % 2 ^ 64 in
    let split : n ≡ hi * 2 ^ 64 + lo = omega arith in
    let written = ap (to_be_bytes w128) split ∙ halves_written hi lo (omega arith) in
    let high = from_be_bytes-to_be_bytes_8 hi (omega arith) in
    let low = from_be_bytes-to_be_bytes_8 lo (omega arith) in
    ap (from_be_bytes w128) written ∙ halves_read (to_be_bytes w64 hi) (to_be_bytes w64 lo) refl
    ∙ ap (λ h. h * 2 ^ 64 + from_be_bytes w64 (to_be_bytes w64 lo)) high ∙ ap (λ l. hi * 2 ^ 64 + l) low ∙ sym split

-- a width whose numbers are those below `limit`
pub record IsWide (w : Width) (limit : ℕ) : Type 0 where
  pub back : (bytes : List ℕ) → length bytes ≡ byte_len w → IsBytes bytes → to_be_bytes w (from_be_bytes w bytes) ≡ bytes
  pub again : (n : ℕ) → n < limit → from_be_bytes w (to_be_bytes w n) ≡ n
  pub below : (bytes : List ℕ) → length bytes ≡ byte_len w → IsBytes bytes → from_be_bytes w bytes < limit

pub wide_32 : IsWide w32 (2 ^ 32)
wide_32 = record {
  back = λ bytes long fits. be_bytes_4 bytes _ long fits refl;
  again = λ n lt. from_be_bytes-to_be_bytes_4 n lt;
  below = λ bytes long fits. omega (arith, fits 0, fits 1, fits 2, fits 3);
}

pub wide_64 : IsWide w64 (2 ^ 64)
wide_64 = record {
  back = λ bytes long fits. be_bytes_8 bytes _ long fits refl;
  again = λ n lt. from_be_bytes-to_be_bytes_8 n lt;
  below = λ bytes long fits. below_64 bytes fits;
}

pub wide_128 : IsWide w128 (2 ^ 128)
wide_128 = record {
  back = λ bytes long fits. be_bytes_16 bytes long fits;
  again = λ n lt. read_16 n lt;
  below = λ bytes long fits.
      let read = ap (from_be_bytes w128) (sym (take-append-drop 8 bytes)) ∙ halves_read (take 8 bytes) (drop 8 bytes) (omega (arith, length-take 8 bytes)) in
      omega (arith, read, below_64 (take 8 bytes) (IsBytes-take 8 bytes fits), below_64 (drop 8 bytes) (IsBytes-drop 8 bytes fits));
}
