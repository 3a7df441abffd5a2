-- Sums that stand at the last number of 128 bits, and what they tell of the sums themselves.
use Rattle.std.proofs.Common.{◌≡◌, ℕ, ◌+◌, ◌*◌, ◌<◌, ◌^◌, min, List, [], ◌∷◌, refl, sym, ap, ◌∙◌, arith, nat_lt, Bool, true, false, cond, inl, inr, filter}
use Rattle.std.specs.FinMap.{entries}
use Rattle.std.proofs.lemmas.Bool.{cases_lt, lt-ltb, le-ltb}
use Rattle.std.proofs.lemmas.List.Sums.{sum_by-cons}
use Rattle.std.proofs.lemmas.Nat.{mul-lt}
use Rattle.dm_base.specs.declared.volume.Chunk.{Chunk}
use Rattle.dm_durable.specs.declared.group.BitfileRow.{BitfileRow}
use Rattle.dm_durable.specs.Group.{is_on}
use Rattle.dm_durable.specs.Tables.{ByNumber}
use Rattle.dm_durable.specs.Volumes.{live_in, live_on, weight_on}
use Rattle.dm_group_usage.specs.Measures.{measure_in, measure_on, summed}
use Rattle.dm_rules.specs.Merge.{weights}
use Rattle.dm_rules.specs.Numbers.{as_word}
use Rattle.dm_rules.specs.Zone.{weight, zone_header}
use Rattle.dm_rules.specs.Version.{chunk_header}
use Rattle.dm_tables.specs.Totals.{sum_of, total}
use Rattle.dm_tables.proofs.Sums.{total-entries}

-- ---- a loop that adds up

-- what was added up, and what is left to be, are the whole
pub record Summing (sum left whole : ℕ) : Type 0 where
  pub is : summed (sum + left) ≡ summed whole
  pub small : sum < 2 ^ 128

pub summing_begin : (left whole : ℕ) → left ≡ whole → Summing 0 left whole
summing_begin left whole same = record { is = ap summed (let e : 0 + left ≡ whole = omega (arith, same) in e); small = omega arith }

pub summing_end : (sum left whole : ℕ) → left ≡ 0 → Summing sum left whole → sum ≡ summed whole
summing_end sum left whole none so =
    let small = so.small in
    (let e : sum ≡ summed (sum + left) = omega arith in e) ∙ so.is

-- ---- the chunks of a bitfile
pub measuring_on : (extra : ℕ) (vsn : List ℕ) (cs rest : List Chunk) (c : Chunk) (sum more whole : ℕ) → cs ≡ c ∷ rest → more ≡ cond (is_on vsn c) (summed (sum + (extra + c.len))) sum → more < 2 ^ 128 → Summing sum (measure_in extra vsn cs) whole → Summing more (measure_in extra vsn rest) whole
measuring_on extra vsn cs rest c sum more whole is is_more small so = record {
  is =
      ap (λ m. summed (m + measure_in extra vsn rest)) is_more ∙ either (is_on vsn c)
      ∙ sym (ap (λ l. summed (sum + measure_in extra vsn l)) is) ∙ so.is;
  small = small;
}
  where
    either : (b : Bool) → summed (cond b (summed (sum + (extra + c.len))) sum + measure_in extra vsn rest) ≡ summed (sum + cond b (extra + c.len + measure_in extra vsn rest) (measure_in extra vsn rest))
    either true = more_summed sum (extra + c.len) (measure_in extra vsn rest)
      where
        more_summed : (a b c : ℕ) → summed (summed (a + b) + c) ≡ summed (a + (b + c))
        more_summed a b c = omega arith
    either false = refl

-- ---- all bitfiles
abbrev pub row_measure : ℕ → List ℕ → BitfileRow → ℕ
row_measure extra vsn row = measure_in extra vsn row.chunks

pub rows_begin : (extra : ℕ) (vsn : List ℕ) (left : List (ℕ × BitfileRow)) (bitfiles : ByNumber BitfileRow) → left ≡ entries bitfiles → Summing 0 (sum_of (row_measure extra vsn) left) (measure_on bitfiles extra vsn)
rows_begin extra vsn left bitfiles is = summing_begin _ _ (ap (sum_of (row_measure extra vsn)) is ∙ sym (total-entries (row_measure extra vsn) bitfiles))

twice : (sum add rest more own : ℕ) → add ≡ summed own → more ≡ min (sum + add) 340282366920938463463374607431768211455 → summed (more + rest) ≡ summed (sum + (own + rest))
twice sum add rest more own is is_more = omega arith

pub rows_on : (extra : ℕ) (vsn : List ℕ) (left rest : List (ℕ × BitfileRow)) (k : ℕ) (row : BitfileRow) (sum add more whole : ℕ) → left ≡ (k, row) ∷ rest → add ≡ summed (row_measure extra vsn row) → more ≡ min (sum + add) 340282366920938463463374607431768211455 → more < 2 ^ 128 → Summing sum (sum_of (row_measure extra vsn) left) whole → Summing more (sum_of (row_measure extra vsn) rest) whole
rows_on extra vsn left rest k row sum add more whole is same is_more small so =
    let parts : sum_of (row_measure extra vsn) left ≡ row_measure extra vsn row + sum_of (row_measure extra vsn) rest = ap (sum_of (row_measure extra vsn)) is in
    record {
      is = twice sum add (sum_of (row_measure extra vsn) rest) more (row_measure extra vsn row) same is_more ∙ ap (λ n. summed (sum + n)) (sym parts) ∙ so.is;
      small = small;
    }

-- ---- what the measures are
live_measured : (vsn : List ℕ) (cs : List Chunk) → measure_in 0 vsn cs ≡ live_in vsn cs
live_measured vsn [] = refl
live_measured vsn (c ∷ cs) =
    let rest = live_measured vsn cs in
    (λ i. cond (is_on vsn c) (0 + c.len + rest i) (rest i)) ∙ ap (λ n. cond (is_on vsn c) (n + live_in vsn cs) (live_in vsn cs)) (let e : 0 + c.len ≡ c.len = omega arith in e)

pub live_is : (bitfiles : ByNumber BitfileRow) (vsn : List ℕ) (sum : ℕ) → sum ≡ summed (measure_on bitfiles 0 vsn) → as_word sum ≡ as_word (live_on bitfiles vsn)
live_is bitfiles vsn sum is =
    let same : measure_on bitfiles 0 vsn ≡ live_on bitfiles vsn = λ i. total (λ (row : BitfileRow). live_measured vsn row.chunks i) bitfiles in
    word_all (live_on bitfiles vsn) sum (is ∙ ap summed same)
  where
    word_all : (size have : ℕ) → have ≡ summed size → as_word have ≡ as_word size
    word_all size have is = omega arith

weight_measured : (version extra : ℕ) (vsn : List ℕ) (cs : List Chunk) → extra ≡ zone_header + chunk_header version → measure_in extra vsn cs ≡ weights version (filter (is_on vsn) cs)
weight_measured version extra vsn [] is = refl
weight_measured version extra vsn (c ∷ cs) is =
    let rest = weight_measured version extra vsn cs is in
    (λ i. cond (is_on vsn c) (is i + c.len + rest i) (rest i)) ∙ both (is_on vsn c)
  where
    both : (b : Bool) → cond b (zone_header + chunk_header version + c.len + weights version (filter (is_on vsn) cs)) (weights version (filter (is_on vsn) cs)) ≡ weights version (cond b (c ∷ filter (is_on vsn) cs) (filter (is_on vsn) cs))
    both true = sym (sum_by-cons (λ c. weight version c.len) c (filter (is_on vsn) cs))
    both false = refl

pub weight_is : (bitfiles : ByNumber BitfileRow) (version extra : ℕ) (vsn : List ℕ) → extra ≡ zone_header + chunk_header version → measure_on bitfiles extra vsn ≡ weight_on bitfiles version vsn
weight_is bitfiles version extra vsn is = λ i. total (λ (row : BitfileRow). weight_measured version extra vsn row.chunks is i) bitfiles

-- ---- what a sum tells that is compared

-- a product of two numbers of 64 bits
pub times_small : (m n : ℕ) → m < 2 ^ 64 → n < 2 ^ 64 → m * n < 2 ^ 128
times_small m n a b = mul-lt m n (2 ^ 64) (2 ^ 64) a b

-- one below a part that 128 bits hold is told truly
pub below_is : (weight have part : ℕ) → part < 2 ^ 128 → have ≡ summed weight → nat_lt (100 * have) part ≡ nat_lt (100 * weight) part
below_is weight have part small is =
    elim (cases_lt (100 * weight) part) [
      | inl l ↦ lt-ltb (100 * have) part (omega arith) ∙ sym (lt-ltb (100 * weight) part l)
      | inr g ↦ le-ltb (100 * have) part (omega arith) ∙ sym (le-ltb (100 * weight) part g)
    ]
