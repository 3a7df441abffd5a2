-- The longest piece that one zone can hold.
use Rattle.std.proofs.Common.{◌≡◌, ◌⊎◌, min, sym, ap, ◌∙◌, inl, inr, ℕ, suc, ◌+◌, ◌-◌, ◌*◌, ◌/◌, ◌%◌, ◌<◌, ◌≤◌, refl, arith}
use Rattle.std.proofs.lemmas.Bool.{cases_lt, lt-ltb, le-ltb}
use Rattle.std.proofs.lemmas.Grind.{div_ceil_times}
use Rattle.std.proofs.Math.Nat.{div-add-mod, div-eq_of_lt, mod-eq_of_lt, mod-lt, mul-le-mul_left, mul-le-mul_right}
use Rattle.dm_rules.specs.Version.{chunk_header}
use Rattle.dm_rules.specs.Zone.{chunk_count, zone_length}
use Rattle.dm_rules.specs.Room.{most_bytes, room}

-- a count whose product reaches past q times chunk is greater than q
above : (q m chunk n : ℕ) → n ≤ m * chunk → q * chunk < n → q < m
above q m chunk n reach past =
    elim (cases_lt q m) [ inl l ↦ l | inr g ↦ absurd (omega (arith, mul-le-mul_right {m = m} {n = q} chunk g)) ]

-- a count whose product is less than one chunk past q times chunk is at most q
at_most : (q m chunk : ℕ) → m * chunk < q * chunk + chunk → m ≤ q
at_most q m chunk below =
    elim (cases_lt q m) [ inr g ↦ g | inl l ↦ absurd (omega (arith, mul-le-mul_right {m = suc q} {n = m} chunk l)) ]

-- the two forms of what is held, with headers of h bytes
pub record Parts (h left chunk q rest : ℕ) : Type 0 where
  pub whole : left ≡ q * h + q * chunk + rest
  pub below : rest < h + chunk
  pub is : ((h < rest) × (most_bytes h left chunk ≡ q * chunk + (rest - h))) ⊎ ((rest ≤ h) × (most_bytes h left chunk ≡ q * chunk))

-- the code's sum of both lengths stops at the last value of 64 bits, above all that is left
step_is : (h left chunk step : ℕ) → step ≡ min (chunk + h) 18446744073709551615 → left < 18446744073709551615 → (left / step ≡ left / (h + chunk)) × (left % step ≡ left % (h + chunk))
step_is h left chunk step is below =
    elim (cases_lt 18446744073709551615 (h + chunk)) [
      | inl above ↦
          let all : step ≡ 18446744073709551615 = omega arith in
          let l : left < step = omega arith in
          let m : left < h + chunk = omega arith in (
            div-eq_of_lt l ∙ sym (div-eq_of_lt m),
            mod-eq_of_lt l ∙ sym (mod-eq_of_lt m),
          )
      | inr fits ↦
          let all : step ≡ h + chunk = omega arith in (ap (λ s. left / s) all, ap (λ s. left % s) all)
    ]

-- what the code gives
pub most_above : (h left chunk step : ℕ) → step ≡ min (chunk + h) 18446744073709551615 → left < 18446744073709551615 → h < left % step → left / step * chunk + (left % step - h) ≡ most_bytes h left chunk
most_above h left chunk step is below more =
    let s = step_is h left chunk step is below in
    let rest : h < left % (h + chunk) = omega (arith, s.1) in
    ap (λ q. q * chunk + (left % step - h)) s.0 ∙ ap (λ r. left / (h + chunk) * chunk + (r - h)) s.1 ∙ sym (rw (lt-ltb h (left % (h + chunk)) rest) refl)

pub most_at : (h left chunk step : ℕ) → step ≡ min (chunk + h) 18446744073709551615 → left < 18446744073709551615 → left % step ≤ h → left / step * chunk ≡ most_bytes h left chunk
most_at h left chunk step is below less =
    let s = step_is h left chunk step is below in
    let rest : left % (h + chunk) ≤ h = omega (arith, s.1) in
    ap (λ q. q * chunk) s.0 ∙ sym (rw (le-ltb h (left % (h + chunk)) rest) refl)

-- a number is its quotient's product and its rest
divided : (left step : ℕ) → 0 < step → (left ≡ left / step * step + left % step) × (left % step < step)
divided left step some = (omega (arith, div-add-mod left step), mod-lt left some)

parts : (h left chunk : ℕ) → 0 < h → Parts h left chunk (left / (h + chunk)) (left % (h + chunk))
parts h left chunk some =
    let d = divided left (h + chunk) (omega arith) in
    record {
      whole = omega (arith, d.0);
      below = d.1;
      is = elim (cases_lt h (left % (h + chunk))) [
        | inl l ↦ inl (l, rw (lt-ltb h (left % (h + chunk)) l))
        | inr g ↦ inr (g, rw (le-ltb h (left % (h + chunk)) g))
      ];
    }

fits_of : (h left chunk q rest n m : ℕ) → Parts h left chunk q rest → n ≡ most_bytes h left chunk → m * chunk < n + chunk → h * m + n ≤ left
fits_of h left chunk q rest n m p is high =
    elim p.is [
      | inl a ↦ omega (arith, p.whole, p.below, a.0, a.1, is, mul-le-mul_left {m = m} {n = suc q} h (at_most (suc q) m chunk (omega (arith, p.below, a.0, a.1, is, high))))
      | inr a ↦ omega (arith, p.whole, p.below, a.0, a.1, is, mul-le-mul_left {m = m} {n = q} h (at_most q m chunk (omega (arith, a.1, is, high))))
    ]

-- a zone of what is held ends within what is left
pub bytes_fit : (h left chunk : ℕ) → 0 < h → 0 < chunk → h * chunk_count chunk (most_bytes h left chunk) + most_bytes h left chunk ≤ left
bytes_fit h left chunk header some =
    fits_of h left chunk _ _ (most_bytes h left chunk) _ (parts h left chunk header) refl (div_ceil_times (most_bytes h left chunk) chunk some).1

longest_of : (h left chunk q rest n m : ℕ) → Parts h left chunk q rest → most_bytes h left chunk < n → n ≤ m * chunk → left < h * m + n
longest_of h left chunk q rest n m p more reach =
    elim p.is [
      | inl a ↦ omega (arith, p.whole, p.below, a.0, a.1, more, mul-le-mul_left {m = suc q} {n = m} h (above q m chunk n reach (omega (arith, a.0, a.1, more))))
      | inr a ↦ omega (arith, p.whole, p.below, a.0, a.1, more, mul-le-mul_left {m = suc q} {n = m} h (above q m chunk n reach (omega (arith, a.0, a.1, more))))
    ]

-- a zone of more doesn't
pub bytes_longest : (h left chunk n : ℕ) → 0 < h → 0 < chunk → most_bytes h left chunk < n → left < h * chunk_count chunk n + n
bytes_longest h left chunk n header some more = longest_of h left chunk _ _ n _ (parts h left chunk header) more (div_ceil_times n chunk some).0

pub room_none : (version size tip chunk : ℕ) → size - tip < 32 → room version size tip chunk ≡ 0
unfolding room
room_none version size tip chunk l = rw (lt-ltb (size - tip) 32 l)

pub room_some : (version size tip chunk : ℕ) → 32 ≤ size - tip → room version size tip chunk ≡ most_bytes (chunk_header version) (size - tip - 32) chunk
unfolding room
room_some version size tip chunk l = rw (le-ltb (size - tip) 32 l)

pub room_fits : (version size tip chunk n : ℕ) → 32 ≤ size - tip → n ≡ most_bytes (chunk_header version) (size - tip - 32) chunk → 0 < chunk → zone_length version chunk n ≤ size - tip
room_fits version size tip chunk n l is some = rw is (omega (arith, bytes_fit (chunk_header version) (size - tip - 32) chunk (omega arith) some))

pub room_longest : (version size tip chunk n m : ℕ) → 32 ≤ size - tip → m ≡ most_bytes (chunk_header version) (size - tip - 32) chunk → 0 < chunk → m < n → size - tip < zone_length version chunk n
room_longest version size tip chunk n m l is some more =
    omega (arith, bytes_longest (chunk_header version) (size - tip - 32) chunk n (omega arith) some (omega arith))
