-- A loop that asks each row, and one that adds up a weight.
use Rattle.std.proofs.Common.{◌≡◌, ◌≤◌, ◌<◌, ◌+◌, ◌*◌, ◌^◌, ℕ, suc, Bool, true, false, ◌||◌, List, [], ◌∷◌, length, sym, ap, ◌∙◌, arith, Ordering}
use Rattle.std.specs.List.{list_any}
use Rattle.std.specs.FinMap.{FinMap, entries, len, len-entries}
use Rattle.dm_tables.specs.Rows.{any}
use Rattle.dm_tables.specs.Totals.{sum_of, total}
use Rattle.dm_tables.proofs.Orders.{KeyOrder}
use Rattle.dm_tables.proofs.Any.{any-entries}
use Rattle.dm_tables.proofs.Sums.{total-entries}

module _ {K X : Type 0} (p : X → Bool) where
  -- whether one of the entries passes
  abbrev pub asked : List (K × X) → Bool
  asked es = list_any (λ e. p e.1) es

  -- one that fails is passed over
  pub asked_on : (left rest : List (K × X)) (k : K) (x : X) (whole : Bool) → left ≡ (k, x) ∷ rest → p x ≡ false → asked left ≡ whole → asked rest ≡ whole
  asked_on left rest k x whole is fails so_far =
      sym (ap asked is ∙ ap (λ b. b || asked rest) fails) ∙ so_far

  -- one that passes is enough
  pub asked_here : (left rest : List (K × X)) (k : K) (x : X) (whole : Bool) → left ≡ (k, x) ∷ rest → p x ≡ true → asked left ≡ whole → true ≡ whole
  asked_here left rest k x whole is here so_far =
      sym (ap asked is ∙ ap (λ b. b || asked rest) here) ∙ so_far

  -- none is left
  pub asked_end : (left : List (K × X)) (whole : Bool) → left ≡ [] → asked left ≡ whole → false ≡ whole
  asked_end left whole none so_far = sym (ap asked none) ∙ so_far

module _ {K X : Type 0} {R : K → K → Ordering} (o : KeyOrder R) where
  -- where the loop begins
  pub asked_whole : (p : X → Bool) (left : List (K × X)) (m : FinMap R X) → left ≡ entries m → asked p left ≡ any (λ _. p) m
  asked_whole p left m is = ap (asked p) is ∙ sym (any-entries o (λ _. p) m)

-- What was added up, and what is left to be, are the whole. Each row adds less than 2 ^ 64.
pub record Added {K X : Type 0} (w : X → ℕ) (sum : ℕ) (left : List (K × X)) (whole count : ℕ) : Type 0 where
  pub is : sum + sum_of w left ≡ whole
  pub low : sum + (2 ^ 64) * length left ≤ (2 ^ 64) * count

module _ {K X : Type 0} (w : X → ℕ) where
  -- a row is added
  pub added_on : (sum add whole count : ℕ) (left rest : List (K × X)) (k : K) (x : X) → left ≡ (k, x) ∷ rest → add ≡ w x → add < 2 ^ 64 → Added w sum left whole count → Added w (sum + add) rest whole count
  added_on sum add whole count left rest k x is same small so_far =
      let parts : sum_of w left ≡ w x + sum_of w rest = ap (sum_of w) is in
      let longer : length left ≡ suc (length rest) = ap length is in
      let so = so_far.is in
      let low = so_far.low in
      record { is = omega arith; low = omega arith }

  -- and there is room for it
  pub added_fits : (sum add whole count : ℕ) (left rest : List (K × X)) (k : K) (x : X) → left ≡ (k, x) ∷ rest → add < 2 ^ 64 → count < 2 ^ 63 → Added w sum left whole count → sum + add < 2 ^ 128
  added_fits sum add whole count left rest k x is small few so_far =
      let longer : length left ≡ suc (length rest) = ap length is in
      let low = so_far.low in
      omega arith

  -- none is left
  pub added_end : (sum whole count : ℕ) (left : List (K × X)) → left ≡ [] → Added w sum left whole count → sum ≡ whole
  added_end sum whole count left none so_far =
      let parts : sum_of w left ≡ 0 = ap (sum_of w) none in
      let so = so_far.is in
      omega arith

-- where the loop begins
pub added_whole : {K X : Type 0} {R : K → K → Ordering} (w : X → ℕ) (left : List (K × X)) (m : FinMap R X) → left ≡ entries m → Added w 0 left (total w m) (len m)
added_whole w left m is =
    let many : length left ≡ len m = ap length is ∙ sym (len-entries m) in
    let whole : sum_of w left ≡ total w m = ap (sum_of w) is ∙ sym (total-entries w m) in
    record { is = omega arith; low = omega arith }
