-- Sums that stand at the last number of 128 bits, and what they tell of the sums themselves.
use Rattle.std.proofs.Common.{◌≡◌, ℕ, ◌+◌, ◌-◌, ◌<◌, ◌≤◌, ◌^◌, min, List, [], ◌∷◌, refl, sym, ap, ◌∙◌, arith, nat_lt, true, false, inl, inr, Ordering, length, suc}
use Rattle.std.specs.FinMap.{FinMap, entries, len, len-entries}
use Rattle.std.proofs.lemmas.Bool.{cases_lt, lt-ltb, le-ltb}
use Rattle.dm_daemon_plans.specs.Found.{summed}
use Rattle.dm_rules.specs.Numbers.{as_word}
use Rattle.dm_tables.specs.Rows.{changed, map_values}
use Rattle.dm_tables.specs.Totals.{sum_of, total}
use Rattle.dm_tables.proofs.Orders.{KeyOrder}
use Rattle.dm_tables.proofs.Entries.{entries-mapped}
use Rattle.dm_tables.proofs.Sums.{total-entries}

-- ---- a loop that adds up

-- what was added up, and what is left to be, are the whole
pub record Summing {K X : Type 0} (w : X → ℕ) (sum : ℕ) (left : List (K × X)) (whole : ℕ) : Type 0 where
  pub is : summed (sum + sum_of w left) ≡ summed whole
  pub small : sum < 2 ^ 128

summed_more : (sum add rest more : ℕ) → more ≡ min (sum + add) 340282366920938463463374607431768211455 → summed (more + rest) ≡ summed (sum + (add + rest))
summed_more sum add rest more is = omega arith

pub summing_begin : {K X : Type 0} {R : K → K → Ordering} (w : X → ℕ) (left : List (K × X)) (m : FinMap R X) → left ≡ entries m → Summing w 0 left (total w m)
summing_begin w left m is = record {
  is = ap summed (let e : 0 + sum_of w left ≡ sum_of w left = omega arith in e ∙ ap (sum_of w) is ∙ sym (total-entries w m));
  small = omega arith;
}

pub summing_on : {K X : Type 0} (w : X → ℕ) (sum add more whole : ℕ) (left rest : List (K × X)) (k : K) (x : X) → left ≡ (k, x) ∷ rest → add ≡ w x → more ≡ min (sum + add) 340282366920938463463374607431768211455 → more < 2 ^ 128 → Summing w sum left whole → Summing w more rest whole
summing_on w sum add more whole left rest k x is same is_more small so =
    let parts : sum_of w left ≡ w x + sum_of w rest = ap (sum_of w) is in
    record {
      is = summed_more sum add (sum_of w rest) more is_more ∙ ap (λ n. summed (sum + n)) (ap (λ a. a + sum_of w rest) same ∙ sym parts) ∙ so.is;
      small = small;
    }

pub summing_end : {K X : Type 0} (w : X → ℕ) (sum whole : ℕ) (left : List (K × X)) → left ≡ [] → Summing w sum left whole → sum ≡ summed whole
summing_end w sum whole left none so =
    let parts : sum_of w left ≡ 0 = ap (sum_of w) none in
    let small = so.small in
    (let e : sum ≡ summed (sum + sum_of w left) = omega arith in e) ∙ so.is

-- ---- what such a sum tells

pub summed_add : (files dumps have sum : ℕ) → have ≡ summed dumps → sum ≡ min (files + have) 340282366920938463463374607431768211455 → sum ≡ summed (files + dumps)
summed_add files dumps have sum is is_sum = omega arith

pub word_summed : (size have off : ℕ) → off < 2 ^ 64 → have ≡ summed size → as_word (have - off) ≡ as_word (size - off)
word_summed size have off small is = omega arith

pub passes_summed : (cap size have off need : ℕ) → cap < 2 ^ 64 → off < 2 ^ 64 → have ≡ summed size → nat_lt cap (have - off + need) ≡ nat_lt cap (size - off + need)
passes_summed cap size have off need low small is =
    elim (cases_lt cap (size - off + need)) [
      | inl l ↦ lt-ltb cap (have - off + need) (omega arith) ∙ sym (lt-ltb cap (size - off + need) l)
      | inr g ↦ le-ltb cap (have - off + need) (omega arith) ∙ sym (le-ltb cap (size - off + need) g)
    ]

pub word_all : (size have : ℕ) → have ≡ summed size → as_word have ≡ as_word size
word_all size have is = omega arith

pub passes_all : (cap size have need : ℕ) → cap < 2 ^ 64 → have ≡ summed size → nat_lt cap (have + need) ≡ nat_lt cap (size + need)
passes_all cap size have need low is =
    elim (cases_lt cap (size + need)) [
      | inl l ↦ lt-ltb cap (have + need) (omega arith) ∙ sym (lt-ltb cap (size + need) l)
      | inr g ↦ le-ltb cap (have + need) (omega arith) ∙ sym (le-ltb cap (size + need) g)
    ]

-- ---- the rows of a table, each changed

module _ {K X Y : Type 0} (f : X → Y) where
  sum_changed : (w : Y → ℕ) (es : List (K × X)) → sum_of w (changed (λ k. f) es) ≡ sum_of (λ x. w (f x)) es
  sum_changed w [] = refl
  sum_changed w (e ∷ es) = ap (λ n. w (f e.1) + n) (sum_changed w es)

  length_changed : (es : List (K × X)) → length (changed (λ k. f) es) ≡ length es
  length_changed [] = refl
  length_changed (e ∷ es) = ap suc (length_changed es)

module _ {K X Y : Type 0} {R : K → K → Ordering} (o : KeyOrder R) where
  pub total_mapped : (f : X → Y) (w : Y → ℕ) (m : FinMap R X) → total w (map_values (λ k. f) m) ≡ total (λ x. w (f x)) m
  total_mapped f w m =
      total-entries w (map_values (λ k. f) m) ∙ ap (sum_of w) (entries-mapped o (λ k. f) m) ∙ sum_changed f w (entries m)
      ∙ sym (total-entries (λ x. w (f x)) m)

  pub len_mapped : (f : X → Y) (m : FinMap R X) → len (map_values (λ k. f) m) ≡ len m
  len_mapped f m =
      len-entries (map_values (λ k. f) m) ∙ ap length (entries-mapped o (λ k. f) m) ∙ length_changed f (entries m)
      ∙ sym (len-entries m)
