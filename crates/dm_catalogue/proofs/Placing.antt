-- The chunk that begins at an offset, and a change of it.
use Rattle.std.proofs.Common.{◌≡◌, ℕ, zero, suc, ◌+◌, ◌<◌, ◌≤◌, Bool, true, false, T, ◌&&◌, IsTrue, cond, List, [], ◌∷◌, length, map, Option, None, Some, Ok, Err, option_map, nat_eq, nat_lt, slice_get, slice_set, refl, sym, ap, subst, ◌∙◌, inl, inr, arith, is_eq, is_lt, Ordering, Less, Equal, Greater}
use Rattle.std.proofs.lemmas.Bool.{eq-eqb, ne_eqb, lt-ltb}
use Rattle.std.proofs.lemmas.Option.{slice_get_within, slice_get-map}
use Rattle.std.specs.Ordering.{nat_cmp}
use Rattle.std.specs.Cmp.{nat_cmp_is}
use Rattle.std.specs.FinMap.{find, is_sorted}
use Rattle.std.specs.FinMap.Entries.{below_all}
use Rattle.dm_base.specs.declared.volume.Chunk.{Chunk}
use Rattle.dm_durable.specs.Group.{chunk_at, chunk_or_moved}
use Rattle.dm_durable.specs.GroupConditions.{Joins}
use Rattle.dm_rows.specs.Places.{place_of}
use Rattle.dm_rows.proofs.Methods.{true_of}
use Rattle.dm_rows.proofs.Search.{found_row, found_key, found_none}
use Rattle.dm_tables.proofs.Entries.{both}
use Rattle.dm_tables.proofs.Orders.{numbers, same_or, tied, apart}
use Rattle.dm_catalogue.specs.Sums.{by_offset, put_at}

-- ---- chunks that join lie in order

less_of : (k n : ℕ) → k < n → nat_cmp k n ≡ Less
less_of k n small = sym (nat_cmp_is k n Less small)

all_behind : (k from : ℕ) (cs : List Chunk) (to : ℕ) → k < from → Joins from cs to → T (below_all nat_cmp k (map by_offset cs))
all_behind k from [] to past joins = tt
all_behind k from (c ∷ cs) to past joins =
    let begins : c.offset ≡ from = joins.0 in
    both (is_lt (nat_cmp k c.offset)) (below_all nat_cmp k (map by_offset cs))
    (subst (λ r. T (is_lt r)) (sym (less_of k c.offset (omega arith))) tt)
    (all_behind k (from + c.len) cs to (omega arith) joins.2)

in_order : (from : ℕ) (cs : List Chunk) (to : ℕ) → Joins from cs to → T (is_sorted nat_cmp (map by_offset cs))
in_order from [] to joins = tt
in_order from (c ∷ cs) to joins =
    let begins : c.offset ≡ from = joins.0 in
    let long : 0 < c.len = joins.1 in
    both (below_all nat_cmp c.offset (map by_offset cs)) (is_sorted nat_cmp (map by_offset cs))
    (all_behind c.offset (from + c.len) cs to (omega arith) joins.2)
    (in_order (from + c.len) cs to joins.2)

pub joined_order : (from : ℕ) (cs : List Chunk) (to : ℕ) → Joins from cs to → IsTrue (is_sorted nat_cmp (map by_offset cs))
joined_order from cs to joins = true_of _ (in_order from cs to joins)

-- ---- look-ups

same_test : (offset n : ℕ) → is_eq (nat_cmp offset n) ≡ nat_eq n offset
same_test offset n =
    elim (same_or numbers n offset) [
      | inl same ↦ tied numbers n offset same ∙ sym (eq-eqb n offset (sym same))
      | inr differ ↦ apart numbers n offset differ ∙ sym (ne_eqb n offset (λ e. differ (sym e)))
    ]

chunk_found : (offset : ℕ) (cs : List Chunk) → chunk_at offset cs ≡ find nat_cmp offset (map by_offset cs)
chunk_found offset [] = refl
chunk_found offset (c ∷ cs) =
    ap (cond (nat_eq c.offset offset) (Some c)) (chunk_found offset cs)
    ∙ ap (λ t. cond t (Some c) (find nat_cmp offset (map by_offset cs))) (sym (same_test offset c.offset))

mapped_back : (o : Option Chunk) → option_map (λ e. e.1) (option_map by_offset o) ≡ o
mapped_back None = refl
mapped_back (Some c) = refl

-- what stands where a search found the offset
pub found_at : (offset : ℕ) (cs : List Chunk) (at : ℕ) → place_of nat_cmp offset (map by_offset cs) ≡ Ok at → chunk_at offset cs ≡ slice_get cs at
found_at offset cs at is =
    chunk_found offset cs ∙ found_row numbers offset (map by_offset cs) at is
    ∙ ap (option_map (λ e. e.1)) (slice_get-map by_offset cs at) ∙ mapped_back (slice_get cs at)

pub begins_at : (offset : ℕ) (cs : List Chunk) (at : ℕ) (c : Chunk) → place_of nat_cmp offset (map by_offset cs) ≡ Ok at → slice_get cs at ≡ Some c → c.offset ≡ offset
begins_at offset cs at c is there =
    found_key numbers offset (map by_offset cs) at (by_offset c) is (slice_get-map by_offset cs at ∙ ap (option_map by_offset) there)

pub none_at : (offset : ℕ) (cs : List Chunk) (at : ℕ) → IsTrue (is_sorted nat_cmp (map by_offset cs)) → place_of nat_cmp offset (map by_offset cs) ≡ Err at → chunk_at offset cs ≡ None
none_at offset cs at sorted is =
    chunk_found offset cs ∙ found_none numbers offset (map by_offset cs) at (subst T (sym sorted) tt) is

-- ---- a chunk in the place of the one that begins where it does

beside : (to c : Chunk) → to.offset < c.offset → chunk_or_moved to c ≡ c
beside to c past = ap (λ t. cond t to c) (ne_eqb c.offset to.offset (omega arith))

before : (to c : Chunk) → c.offset < to.offset → chunk_or_moved to c ≡ c
before to c past = ap (λ t. cond t to c) (ne_eqb c.offset to.offset (omega arith))

all_beside : (to : Chunk) (from : ℕ) (cs : List Chunk) (end : ℕ) → to.offset < from → Joins from cs end → map (chunk_or_moved to) cs ≡ cs
all_beside to from [] end past joins = refl
all_beside to from (c ∷ cs) end past joins =
    let begins : c.offset ≡ from = joins.0 in
    let here : chunk_or_moved to c ≡ c = beside to c (omega arith) in
    let rest : map (chunk_or_moved to) cs ≡ cs = all_beside to (from + c.len) cs end (omega arith) joins.2 in
    λ i. here i ∷ rest i

begins_past : (from : ℕ) (cs : List Chunk) (end at : ℕ) (c : Chunk) → Joins from cs end → slice_get cs at ≡ Some c → from ≤ c.offset
begins_past from [] end at c joins there = cc
begins_past from (x ∷ cs) end zero c joins there = let begins : x.offset ≡ from = joins.0 in let same : x ≡ c = cc in let e = ap (λ y. y.offset) same in omega arith
begins_past from (x ∷ cs) end (suc at) c joins there = let rest = begins_past (from + x.len) cs end at c joins.2 there in omega arith

set_there : (to : Chunk) (from : ℕ) (cs : List Chunk) (end at : ℕ) (c : Chunk) → Joins from cs end → slice_get cs at ≡ Some c → c.offset ≡ to.offset
    → slice_set cs at to ≡ map (chunk_or_moved to) cs
set_there to from [] end at c joins there is = cc
set_there to from (x ∷ cs) end zero c joins there is =
    let begins : x.offset ≡ from = joins.0 in
    let long : 0 < x.len = joins.1 in
    let same : x ≡ c = cc in
    let at_to : x.offset ≡ to.offset = ap (λ y. y.offset) same ∙ is in
    let here : chunk_or_moved to x ≡ to = ap (λ t. cond t to x) (eq-eqb x.offset to.offset at_to) in
    let rest : map (chunk_or_moved to) cs ≡ cs = all_beside to (from + x.len) cs end (omega arith) joins.2 in
    λ i. sym here i ∷ sym rest i
set_there to from (x ∷ cs) end (suc at) c joins there is =
    let begins : x.offset ≡ from = joins.0 in
    let long : 0 < x.len = joins.1 in
    let past : from + x.len ≤ c.offset = begins_past (from + x.len) cs end at c joins.2 there in
    let here : chunk_or_moved to x ≡ x = before to x (omega arith) in
    let rest : slice_set cs at to ≡ map (chunk_or_moved to) cs = set_there to (from + x.len) cs end at c joins.2 there is in
    λ i. sym here i ∷ rest i

pub put_there : (to : Chunk) (cs : List Chunk) (end at : ℕ) (c : Chunk) → Joins 0 cs end → slice_get cs at ≡ Some c → c.offset ≡ to.offset
    → put_at at to cs ≡ map (chunk_or_moved to) cs
put_there to cs end at c joins there is =
    ap (λ t. cond t (slice_set cs at to) cs) (lt-ltb at (length cs) (slice_get_within cs at c there)) ∙ set_there to 0 cs end at c joins there is

-- nothing begins there, and nothing changes
pub none_moved : (to : Chunk) (cs : List Chunk) → chunk_at to.offset cs ≡ None → map (chunk_or_moved to) cs ≡ cs
none_moved to [] none = refl
none_moved to (c ∷ cs) none =
    elim (nat_eq c.offset to.offset) as (λ t. cond t (Some c) (chunk_at to.offset cs) ≡ None → cond t to c ∷ map (chunk_or_moved to) cs ≡ c ∷ cs) [
      | true ↦ λ e. cc
      | false ↦ λ e. ap (c ∷◌) (none_moved to cs e)
    ] none
