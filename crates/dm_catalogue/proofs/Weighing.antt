-- What lies on a volume, weighed.
use Rattle.std.proofs.Common.{◌≡◌, ℕ, ◌+◌, ◌-◌, ◌*◌, ◌^◌, ◌<◌, ◌≤◌, Bool, true, false, cond, ◌||◌, List, [], ◌∷◌, Option, None, Some, filter, min, nat_lt, refl, sym, ap, ◌∙◌, arith}
use Rattle.std.proofs.lemmas.Bool.{lt-ltb, le-ltb}
use Rattle.std.proofs.lemmas.List.Sums.{sum_by-cons}
use Rattle.std.specs.List.{list_any, AllByRecursion}
use Rattle.std.specs.FinMap.{entries, get}
use Rattle.dm_base.specs.declared.volume.Chunk.{Chunk}
use Rattle.dm_durable.specs.declared.group.BitfileRow.{BitfileRow}
use Rattle.dm_durable.specs.Group.{has_chunk_on, is_on}
use Rattle.dm_durable.specs.Tables.{ByNumber}
use Rattle.dm_durable.specs.Volumes.{live_in, live_on, weight_on}
use Rattle.dm_rules.specs.Merge.{weights}
use Rattle.dm_rules.specs.Numbers.{as_word}
use Rattle.dm_rules.specs.Version.{chunk_header}
use Rattle.dm_rules.specs.Zone.{weight, zone_header}
use Rattle.dm_places.specs.Queues.{count_in}
use Rattle.dm_tables.specs.Totals.{sum_of, total}
use Rattle.dm_tables.proofs.Any.{any-true, any-false}
use Rattle.dm_tables.proofs.Orders.{numbers}
use Rattle.dm_tables.proofs.Sums.{total-entries, row-le-total, total-same}
use Rattle.dm_catalogue.specs.Sums.{count_on}

-- what the front of a zone of one chunk takes
abbrev pub front_of : ℕ → ℕ
front_of version = zone_header + chunk_header version

weights_cons : (version : ℕ) (c : Chunk) (cs : List Chunk) → weights version (c ∷ cs) ≡ weight version c.len + weights version cs
weights_cons version c cs = sum_by-cons (λ c. weight version c.len) c cs

weights_in : (version : ℕ) (vsn : List ℕ) (cs : List Chunk) → weights version (filter (is_on vsn) cs) ≡ count_in vsn cs * front_of version + live_in vsn cs
weights_in version vsn [] = nothing (front_of version)
  where
    nothing : (front : ℕ) → 0 ≡ 0 * front + 0
    nothing front = omega arith
weights_in version vsn (c ∷ cs) =
    elim (is_on vsn c) as (λ t. weights version (cond t (c ∷ filter (is_on vsn) cs) (filter (is_on vsn) cs)) ≡ cond t (1 + count_in vsn cs) (count_in vsn cs) * front_of version + cond t (c.len + live_in vsn cs) (live_in vsn cs)) [
      | true ↦ weights_cons version c (filter (is_on vsn) cs) ∙ one c.len (front_of version) (weights version (filter (is_on vsn) cs)) (count_in vsn cs) (live_in vsn cs) (weights_in version vsn cs)
      | false ↦ weights_in version vsn cs
    ]
  where
    one : (n front w count live : ℕ) → w ≡ count * front + live → front + n + w ≡ (1 + count) * front + (n + live)
    one n front w count live e = grind arith

both_sums : (f g : BitfileRow → ℕ) (k : ℕ) (es : List (ℕ × BitfileRow)) → sum_of (λ r. f r * k + g r) es ≡ sum_of f es * k + sum_of g es
both_sums f g k [] = nothing k
  where
    nothing : (k : ℕ) → 0 ≡ 0 * k + 0
    nothing k = omega arith
both_sums f g k (e ∷ es) = joined (f e.1) (g e.1) k (sum_of f es) (sum_of g es) (sum_of (λ r. f r * k + g r) es) (both_sums f g k es)
  where
    joined : (a b k s t u : ℕ) → u ≡ s * k + t → a * k + b + u ≡ (a + s) * k + (b + t)
    joined a b k s t u e = grind arith

pub weight_is : (bitfiles : ByNumber BitfileRow) (version : ℕ) (vsn : List ℕ) → weight_on bitfiles version vsn ≡ count_on bitfiles vsn * front_of version + live_on bitfiles vsn
weight_is bitfiles version vsn =
    total-same numbers (λ r. weights version (filter (is_on vsn) r.chunks)) (λ r. count_in vsn r.chunks * front_of version + live_in vsn r.chunks) bitfiles (λ b r e. weights_in version vsn r.chunks)
    ∙ total-entries (λ r. count_in vsn r.chunks * front_of version + live_in vsn r.chunks) bitfiles
    ∙ both_sums (λ r. count_in vsn r.chunks) (λ r. live_in vsn r.chunks) (front_of version) (entries bitfiles)
    ∙ sym (λ i. total-entries (λ r. count_in vsn r.chunks) bitfiles i * front_of version + total-entries (λ r. live_in vsn r.chunks) bitfiles i)

-- as 64 bits hold it
pub weight_narrow : (product sum count front bytes : ℕ) → product ≡ min (count * front) (2 ^ 128 - 1) → sum ≡ min (product + bytes) (2 ^ 128 - 1) → as_word sum ≡ as_word (count * front + bytes)
weight_narrow product sum count front bytes p s = narrow product sum (count * front) bytes p s
  where
    narrow : (product sum whole bytes : ℕ) → product ≡ min whole (2 ^ 128 - 1) → sum ≡ min (product + bytes) (2 ^ 128 - 1) → as_word sum ≡ as_word (whole + bytes)
    narrow product sum whole bytes p s = omega arith

-- ---- whether a chunk lies there

none_in : (vsn : List ℕ) (cs : List Chunk) → list_any (is_on vsn) cs ≡ false → count_in vsn cs ≡ 0
none_in vsn [] none = refl
none_in vsn (c ∷ cs) none =
    elim (is_on vsn c) as (λ t. (t || list_any (is_on vsn) cs) ≡ false → cond t (1 + count_in vsn cs) (count_in vsn cs) ≡ 0) [
      | true ↦ λ e. cc
      | false ↦ λ e. none_in vsn cs e
    ] none

some_in : (vsn : List ℕ) (cs : List Chunk) → list_any (is_on vsn) cs ≡ true → 0 < count_in vsn cs
some_in vsn [] some = cc
some_in vsn (c ∷ cs) some =
    elim (is_on vsn c) as (λ t. (t || list_any (is_on vsn) cs) ≡ true → 0 < cond t (1 + count_in vsn cs) (count_in vsn cs)) [
      | true ↦ λ e. omega arith
      | false ↦ λ e. some_in vsn cs e
    ] some

none_weighs : (es : List (ℕ × BitfileRow)) → sum_of {K = ℕ} (λ (r : BitfileRow). 0) es ≡ 0
none_weighs [] = refl
none_weighs (e ∷ es) = let rest = none_weighs es in omega arith

pub live_test : (bitfiles : ByNumber BitfileRow) (vsn : List ℕ) → nat_lt 0 (count_on bitfiles vsn) ≡ has_chunk_on bitfiles vsn
live_test bitfiles vsn = by_test (count_on bitfiles vsn) (has_chunk_on bitfiles vsn) some none
  where
    by_test : (n : ℕ) (t : Bool) → (t ≡ true → 0 < n) → (t ≡ false → n ≡ 0) → nat_lt 0 n ≡ t
    by_test n true some none = lt-ltb 0 n (some refl)
    by_test n false some none = le-ltb 0 n (let f = none refl in omega arith)

    some : has_chunk_on bitfiles vsn ≡ true → 0 < count_on bitfiles vsn
    some e =
        let row = any-true (λ b r. list_any (is_on vsn) r.chunks) bitfiles e in
        let here : 0 < count_in vsn row.1.chunks = some_in vsn row.1.chunks row.3 in
        let all : count_in vsn row.1.chunks ≤ count_on bitfiles vsn = row-le-total numbers (λ r. count_in vsn r.chunks) bitfiles row.0 row.1 row.2 in
        omega arith

    none : has_chunk_on bitfiles vsn ≡ false → count_on bitfiles vsn ≡ 0
    none e =
        let each = any-false numbers (λ b r. list_any (is_on vsn) r.chunks) bitfiles e in
        total-same numbers (λ r. count_in vsn r.chunks) (λ r. 0) bitfiles (λ b r f. none_in vsn r.chunks (each b r f))
        ∙ total-entries (λ r. 0) bitfiles ∙ none_weighs (entries bitfiles)
