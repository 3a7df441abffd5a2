-- A chunk is put in the place of the one that begins where it does.
use Rattle.std.proofs.Common.{◌≡◌, ℕ, zero, suc, ◌+◌, ◌-◌, ◌*◌, ◌<◌, ◌≤◌, ◌^◌, Bool, true, false, cond, List, [], ◌∷◌, length, map, Option, None, Some, slice_get, slice_set, nat_lt, refl, sym, ap, subst, ◌∙◌, arith}
use Rattle.std.proofs.lemmas.Bool.{lt-ltb}
use Rattle.std.proofs.lemmas.Option.{slice_get_within}
use Rattle.std.specs.FinMap.{get, insert, len}
use Rattle.dm_base.specs.declared.volume.Chunk.{Chunk}
use Rattle.dm_durable.specs.declared.group.BitfileRow.{BitfileRow}
use Rattle.dm_durable.specs.Group.{chunk_at, chunk_or_moved, is_on, with_chunk}
use Rattle.dm_durable.specs.GroupConditions.{Joins}
use Rattle.dm_durable.specs.Tables.{ByName, ByNumber}
use Rattle.dm_tables.specs.Rows.{EachRow, adjust}
use Rattle.dm_tables.specs.Totals.{total}
use Rattle.dm_tables.proofs.Adjusted.{adjust-there, adjust-none, each-adjust-known}
use Rattle.dm_tables.proofs.Orders.{numbers}
use Rattle.dm_tables.proofs.Rows.{insert-same}
use Rattle.dm_tables.proofs.Sums.{total-adjust, row-le-total}
use Rattle.dm_catalogue.specs.declared.homes.Live.{Live}
use Rattle.dm_catalogue.specs.Sums.{Finds, FitsInPlace, IsWhole, KeepsHomes, Known, Summed, chunk_in, put_at, with_all, with_chunk_at, without_all}
use Rattle.dm_catalogue.proofs.Placing.{put_there, none_moved}
use Rattle.dm_catalogue.proofs.Summing.{Holds, IsSmall, Measure, all_fewer, all_more, fewer_keeps, holds_long, holds_many, how_long, how_many, kept_at, known_kept, long_small, many_small, sum_in, sum_on, sum_small, summed_of}

-- ---- one bitfile

set_sum : (m : Measure) (vsn : List ℕ) (cs : List Chunk) (at : ℕ) (c to : Chunk) → slice_get cs at ≡ Some c
    → sum_in m vsn (slice_set cs at to) + sum_in m vsn (c ∷ []) ≡ sum_in m vsn (to ∷ []) + sum_in m vsn cs
set_sum m vsn [] at c to there = cc
set_sum m vsn (x ∷ cs) zero c to there =
    let same : x ≡ c = cc in
    subst (λ y. cond (is_on vsn to) (m.of to + sum_in m vsn cs) (sum_in m vsn cs) + cond (is_on vsn y) (m.of y + 0) 0
    ≡ cond (is_on vsn to) (m.of to + 0) 0 + cond (is_on vsn x) (m.of x + sum_in m vsn cs) (sum_in m vsn cs)) same
    (apart (is_on vsn to) (is_on vsn x) (m.of to) (m.of x) (sum_in m vsn cs))
  where
    apart : (a b : Bool) (p q rest : ℕ) → cond a (p + rest) rest + cond b (q + 0) 0 ≡ cond a (p + 0) 0 + cond b (q + rest) rest
    apart true true p q rest = omega arith
    apart true false p q rest = omega arith
    apart false true p q rest = omega arith
    apart false false p q rest = omega arith
set_sum m vsn (x ∷ cs) (suc at) c to there =
    let rest : sum_in m vsn (slice_set cs at to) + sum_in m vsn (c ∷ []) ≡ sum_in m vsn (to ∷ []) + sum_in m vsn cs = set_sum m vsn cs at c to there in
    longer (is_on vsn x) (m.of x) (sum_in m vsn (slice_set cs at to)) (sum_in m vsn (c ∷ [])) (sum_in m vsn (to ∷ [])) (sum_in m vsn cs) rest
  where
    longer : (a : Bool) (p s t u v : ℕ) → s + t ≡ u + v → cond a (p + s) s + t ≡ u + cond a (p + v) v
    longer true p s t u v e = omega arith
    longer false p s t u v e = omega arith

set_joins : (from : ℕ) (cs : List Chunk) (end at : ℕ) (c to : Chunk) → Joins from cs end → slice_get cs at ≡ Some c → to.offset ≡ c.offset → to.len ≡ c.len
    → Joins from (slice_set cs at to) end
set_joins from [] end at c to joins there begins long = cc
set_joins from (x ∷ cs) end zero c to joins there begins long =
    let same : x ≡ c = cc in
    let length : to.len ≡ x.len = long ∙ sym (ap (λ y. y.len) same) in (
      begins ∙ sym (ap (λ y. y.offset) same) ∙ joins.0,
      subst (λ n. 0 < n) (sym length) joins.1,
      subst (λ n. Joins (from + n) cs end) (sym length) joins.2,
    )
set_joins from (x ∷ cs) end (suc at) c to joins there begins long =
    (joins.0, joins.1, set_joins (from + x.len) cs end at c to joins.2 there begins long)

pub put_is : (at : ℕ) (to c : Chunk) (cs : List Chunk) → slice_get cs at ≡ Some c → put_at at to cs ≡ slice_set cs at to
put_is at to c cs there = ap (λ t. cond t (slice_set cs at to) cs) (lt-ltb at (length cs) (slice_get_within cs at c there))

put_whole : (r : BitfileRow) (at : ℕ) (c to : Chunk) → IsWhole r → slice_get r.chunks at ≡ Some c → to.offset ≡ c.offset → to.len ≡ c.len → IsWhole (with_chunk_at at to r)
put_whole r at c to whole there begins long = record {
  joins = subst (λ cs. Joins 0 cs r.len) (sym (put_is at to c r.chunks there)) (set_joins 0 r.chunks r.len at c to whole.joins there begins long);
  small = whole.small;
}

-- ---- all of them

part_of : (m : Measure) (vsn : List ℕ) (cs : List Chunk) (at : ℕ) (c : Chunk) → slice_get cs at ≡ Some c → sum_in m vsn (c ∷ []) ≤ sum_in m vsn cs
part_of m vsn [] at c there = cc
part_of m vsn (x ∷ cs) zero c there =
    let same : x ≡ c = cc in
    subst (λ y. cond (is_on vsn y) (m.of y + 0) 0 ≤ cond (is_on vsn x) (m.of x + sum_in m vsn cs) (sum_in m vsn cs)) same
    (elim (is_on vsn x) as (λ t. cond t (m.of x + 0) 0 ≤ cond t (m.of x + sum_in m vsn cs) (sum_in m vsn cs)) [ true ↦ omega arith | false ↦ omega arith ])
part_of m vsn (x ∷ cs) (suc at) c there =
    let rest : sum_in m vsn (c ∷ []) ≤ sum_in m vsn cs = part_of m vsn cs at c there in
    elim (is_on vsn x) as (λ t. sum_in m vsn (c ∷ []) ≤ cond t (m.of x + sum_in m vsn cs) (sum_in m vsn cs)) [ true ↦ omega arith | false ↦ rest ]

chunk_long : (from : ℕ) (cs : List Chunk) (end at : ℕ) (c : Chunk) → Joins from cs end → slice_get cs at ≡ Some c → (0 < c.len) × (c.len ≤ end)
chunk_long from [] end at c joins there = cc
chunk_long from (x ∷ cs) end zero c joins there =
    let same : x ≡ c = cc in
    subst (λ y. (0 < y.len) × (y.len ≤ end)) same (joins.1, (let rest = joined_past (from + x.len) cs end joins.2 in omega arith))
  where
    joined_past : (from : ℕ) (cs : List Chunk) (end : ℕ) → Joins from cs end → from ≤ end
    joined_past from [] end joins = omega arith
    joined_past from (c ∷ cs) end joins = let rest = joined_past (from + c.len) cs end joins.2 in omega arith
chunk_long from (x ∷ cs) end (suc at) c joins there = chunk_long (from + x.len) cs end at c joins.2 there

one_few : (m : Measure) → IsSmall m → (vsn : List ℕ) (to : Chunk) → 0 < to.len → sum_in m vsn (to ∷ []) ≤ to.len
one_few m less vsn to long =
    let few : m.of to ≤ to.len = less to long in
    elim (is_on vsn to) as (λ t. cond t (m.of to + 0) 0 ≤ to.len) [ true ↦ omega arith | false ↦ omega arith ]

holds_moved : (m : Measure) → IsSmall m → (homes : ByName Live) (bitfiles : ByNumber BitfileRow) (b : ℕ) (r : BitfileRow) (at : ℕ) (c to : Chunk)
    → EachRow bitfiles (λ b r. IsWhole r) → len bitfiles < 2 ^ 63
    → get bitfiles b ≡ Some r → slice_get r.chunks at ≡ Some c → to.len ≡ c.len → Known homes (to ∷ []) → Holds m homes bitfiles
    → Holds m (with_all (to ∷ []) (without_all (c ∷ []) homes)) (adjust bitfiles b (with_chunk_at at to))
holds_moved m less homes bitfiles b r at c to whole few is there same known holds vsn =
    let all : sum_on m bitfiles vsn ≤ 2 ^ 64 * len bitfiles = sum_small m less bitfiles vsn whole in
    let long = chunk_long 0 r.chunks r.len at c (whole b r is).joins there in
    let low : 0 < c.len = long.0 in
    let high : c.len ≤ r.len = long.1 in
    let small : r.len < 2 ^ 64 = (whole b r is).small in
    let one : sum_in m vsn (to ∷ []) ≤ to.len = one_few m less vsn to (omega arith) in
    let was : kept_at m (get homes vsn) ≡ sum_on m bitfiles vsn = holds vsn in
    let fewer : kept_at m (get (without_all (c ∷ []) homes) vsn) ≡ kept_at m (get homes vsn) - sum_in m vsn (c ∷ []) = all_fewer m (c ∷ []) homes vsn in
    let set : sum_in m vsn (put_at at to r.chunks) + sum_in m vsn (c ∷ []) ≡ sum_in m vsn (to ∷ []) + sum_in m vsn r.chunks =
    ap (λ cs. sum_in m vsn cs + sum_in m vsn (c ∷ [])) (put_is at to c r.chunks there) ∙ set_sum m vsn r.chunks at c to there in
    let sum : sum_on m (adjust bitfiles b (with_chunk_at at to)) vsn + sum_in m vsn r.chunks ≡ sum_in m vsn (put_at at to r.chunks) + sum_on m bitfiles vsn =
    total-adjust numbers (λ r. sum_in m vsn r.chunks) bitfiles b (with_chunk_at at to) r is in
    let has : sum_in m vsn (c ∷ []) ≤ sum_in m vsn r.chunks = part_of m vsn r.chunks at c there in
    let row : sum_in m vsn r.chunks ≤ sum_on m bitfiles vsn = row-le-total numbers (λ r. sum_in m vsn r.chunks) bitfiles b r is in
    let fits : kept_at m (get (without_all (c ∷ []) homes) vsn) + sum_in m vsn (to ∷ []) < 2 ^ 128 =
    fit (sum_on m bitfiles vsn) (len bitfiles) (kept_at m (get homes vsn)) (kept_at m (get (without_all (c ∷ []) homes) vsn)) (sum_in m vsn (c ∷ [])) (sum_in m vsn (to ∷ [])) to.len c.len r.len all few was fewer one same high small in
    let more : kept_at m (get (with_all (to ∷ []) (without_all (c ∷ []) homes)) vsn) ≡ kept_at m (get (without_all (c ∷ []) homes) vsn) + sum_in m vsn (to ∷ []) =
    all_more m (to ∷ []) (without_all (c ∷ []) homes) vsn (known_kept homes (without_all (c ∷ []) homes) (to ∷ []) (fewer_keeps (c ∷ []) homes) known) fits in
    put (kept_at m (get (with_all (to ∷ []) (without_all (c ∷ []) homes)) vsn)) (kept_at m (get (without_all (c ∷ []) homes) vsn)) (kept_at m (get homes vsn))
    (sum_on m bitfiles vsn) (sum_on m (adjust bitfiles b (with_chunk_at at to)) vsn) (sum_in m vsn r.chunks) (sum_in m vsn (put_at at to r.chunks)) (sum_in m vsn (c ∷ [])) (sum_in m vsn (to ∷ []))
    was fewer more set sum has row
  where
    fit : (s n k f p q t c r : ℕ) → s ≤ 2 ^ 64 * n → n < 2 ^ 63 → k ≡ s → f ≡ k - p → q ≤ t → t ≡ c → c ≤ r → r < 2 ^ 64 → f + q < 2 ^ 128
    fit s n k f p q t c r all few was fewer one same high small = omega arith

    put : (x f k s u r v p q : ℕ) → k ≡ s → f ≡ k - p → x ≡ f + q → v + p ≡ q + r → u + r ≡ v + s → p ≤ r → r ≤ s → x ≡ u
    put x f k s u r v p q was fewer more set sum has row = omega arith

-- ---- what the table keeps

pub whole_moved : (bitfiles after : ByNumber BitfileRow) (b : ℕ) (r : BitfileRow) (at : ℕ) (c to : Chunk) → EachRow bitfiles (λ b r. IsWhole r) → get bitfiles b ≡ Some r
    → slice_get r.chunks at ≡ Some c → to.offset ≡ c.offset → to.len ≡ c.len → after ≡ adjust bitfiles b (with_chunk_at at to) → EachRow after (λ b r. IsWhole r)
whole_moved bitfiles after b r at c to whole is there begins long changed =
    subst (λ m. EachRow m (λ b r. IsWhole r)) (sym changed)
    (each-adjust-known numbers (λ b r. IsWhole r) bitfiles b (with_chunk_at at to) r is (put_whole r at c to (whole b r is) there begins long) whole)

pub summed_moved : (homes fewer more : ByName Live) (bitfiles after : ByNumber BitfileRow) (b : ℕ) (r : BitfileRow) (at : ℕ) (c to : Chunk)
    → EachRow bitfiles (λ b r. IsWhole r) → len bitfiles < 2 ^ 63 → get bitfiles b ≡ Some r → slice_get r.chunks at ≡ Some c → to.len ≡ c.len → Known homes (to ∷ [])
    → fewer ≡ without_all (c ∷ []) homes → more ≡ with_all (to ∷ []) fewer → after ≡ adjust bitfiles b (with_chunk_at at to) → Summed homes bitfiles → Summed more after
summed_moved homes fewer more bitfiles after b r at c to whole few is there same known gone came changed s =
    let all : more ≡ with_all (to ∷ []) (without_all (c ∷ []) homes) = came ∙ ap (with_all (to ∷ [])) gone in
    subst (λ h. Summed h after) (sym all) (subst (λ m. Summed (with_all (to ∷ []) (without_all (c ∷ []) homes)) m) (sym changed)
    (summed_of (with_all (to ∷ []) (without_all (c ∷ []) homes)) (adjust bitfiles b (with_chunk_at at to))
    (holds_moved how_many many_small homes bitfiles b r at c to whole few is there same known (holds_many homes bitfiles s))
    (holds_moved how_long long_small homes bitfiles b r at c to whole few is there same known (holds_long homes bitfiles s))))

-- the bitfiles are those of the definition
pub rows_moved : (bitfiles after : ByNumber BitfileRow) (b : ℕ) (r : BitfileRow) (at : ℕ) (c to : Chunk) → EachRow bitfiles (λ b r. IsWhole r) → get bitfiles b ≡ Some r
    → slice_get r.chunks at ≡ Some c → c.offset ≡ to.offset → after ≡ adjust bitfiles b (with_chunk_at at to) → after ≡ adjust bitfiles b (with_chunk to)
rows_moved bitfiles after b r at c to whole is there begins changed =
    let same : with_chunk_at at to r ≡ with_chunk to r = ap (λ cs. record r { chunks = cs }) (put_there to r.chunks r.len at c (whole b r is).joins there begins) in
    changed ∙ adjust-there bitfiles b (with_chunk_at at to) r is ∙ ap (insert bitfiles b) same ∙ sym (adjust-there bitfiles b (with_chunk to) r is)

pub none_changed : (bitfiles : ByNumber BitfileRow) (b : ℕ) (to : Chunk) → chunk_in to.offset (get bitfiles b) ≡ None → bitfiles ≡ adjust bitfiles b (with_chunk to)
none_changed bitfiles b to none = of (get bitfiles b) refl none
  where
    of : (o : Option BitfileRow) → get bitfiles b ≡ o → chunk_in to.offset o ≡ None → bitfiles ≡ adjust bitfiles b (with_chunk to)
    of None is none = sym (adjust-none bitfiles b (with_chunk to) is)
    of (Some r) is none =
        sym (adjust-there bitfiles b (with_chunk to) r is ∙ ap (λ cs. insert bitfiles b (record r { chunks = cs })) (none_moved to r.chunks none) ∙ insert-same numbers bitfiles b r is)

-- the chunk that a search found fits in its place
pub fits_there : (o : Option BitfileRow) (at : ℕ) (c to : Chunk) → Finds o to.offset at c → FitsInPlace (chunk_in to.offset o) to → to.len ≡ c.len
fits_there o at c to f fits =
    subst (λ p. FitsInPlace p to) (ap (chunk_in to.offset) f.is ∙ f.first) fits
