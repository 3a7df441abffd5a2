-- What lies on each volume, as bitfiles come and go.
use Rattle.std.proofs.Common.{◌≡◌, ◌≢◌, ℕ, ◌+◌, ◌-◌, ◌*◌, ◌<◌, ◌≤◌, ◌^◌, Bool, true, false, cond, List, [], ◌∷◌, length, Option, None, Some, IsSome, is_some, option_map, min, refl, sym, ap, subst, ◌∙◌, inl, inr, arith, nat_lt}
use Rattle.std.proofs.lemmas.Bool.{lt-ltb, le-ltb}
use Rattle.std.specs.List.{AllByRecursion, list_any}
use Rattle.std.specs.FinMap.{get, insert, remove, entries, len, len-entries, empty, get-empty}
use Rattle.dm_base.specs.declared.volume.Chunk.{Chunk}
use Rattle.dm_durable.specs.declared.group.BitfileRow.{BitfileRow}
use Rattle.dm_durable.specs.Group.{has_chunk_on, is_on}
use Rattle.dm_durable.specs.GroupConditions.{Joins}
use Rattle.dm_durable.specs.Tables.{ByName, ByNumber}
use Rattle.dm_durable.specs.Volumes.{live_in, live_on}
use Rattle.dm_places.specs.Queues.{count_in}
use Rattle.dm_tables.specs.Rows.{EachRow, adjust}
use Rattle.dm_tables.specs.Totals.{sum_of, total, weight_at}
use Rattle.dm_tables.proofs.Orders.{numbers, paths, same_or}
use Rattle.dm_tables.proofs.Rows.{get-here, get-beside}
use Rattle.dm_tables.proofs.Entries.{entries-each}
use Rattle.dm_tables.proofs.Adjusted.{adjusted-here, adjusted-beside}
use Rattle.dm_tables.proofs.Any.{any-true, any-false}
use Rattle.dm_tables.proofs.Sums.{total-entries, total-empty, total-insert, total-remove, row-le-total, total-same}
use Rattle.dm_catalogue.specs.declared.homes.Live.{Live}
use Rattle.dm_catalogue.specs.Sums.{IsWhole, KeepsHomes, Known, Same, Summed, bytes_at, chunks_at, count_on, with_all, with_fewer, with_more, without_all}
use Rattle.dm_catalogue.proofs.Texts.{not_on, on_its}

-- ---- a measure of chunks, and what is kept of it

pub record Measure : Type 0 where
  pub of : Chunk → ℕ
  pub kept : Live → ℕ
  pub more : (c : Chunk) (l : Live) → kept (with_more c.len l) ≡ min (kept l + of c) (2 ^ 128 - 1)
  pub fewer : (c : Chunk) (l : Live) → kept (with_fewer c.len l) ≡ kept l - of c

abbrev pub how_many : Measure
how_many = record { of = λ c. 1; kept = λ l. l.chunks; more = λ c l. refl; fewer = λ c l. refl }

abbrev pub how_long : Measure
how_long = record { of = λ c. c.len; kept = λ l. l.bytes; more = λ c l. refl; fewer = λ c l. refl }

abbrev pub kept_at : Measure → Option Live → ℕ
kept_at m None = 0
kept_at m (Some l) = m.kept l

abbrev pub sum_in : Measure → List ℕ → List Chunk → ℕ
sum_in m vsn [] = 0
sum_in m vsn (c ∷ cs) = cond (is_on vsn c) (m.of c + sum_in m vsn cs) (sum_in m vsn cs)

abbrev pub sum_on : Measure → ByNumber BitfileRow → List ℕ → ℕ
sum_on m bitfiles vsn = total (λ r. sum_in m vsn r.chunks) bitfiles

abbrev pub Holds : Measure → ByName Live → ByNumber BitfileRow → Type 0
Holds m homes bitfiles = (vsn : List ℕ) → kept_at m (get homes vsn) ≡ sum_on m bitfiles vsn

-- ---- one chunk

kept_more : (m : Measure) (c : Chunk) (o : Option Live) → IsSome o → kept_at m o + m.of c < 2 ^ 128 → kept_at m (option_map (with_more c.len) o) ≡ kept_at m o + m.of c
kept_more m c None there small = cc
kept_more m c (Some l) there small = let e = m.more c l in omega arith

kept_fewer : (m : Measure) (c : Chunk) (o : Option Live) → kept_at m (option_map (with_fewer c.len) o) ≡ kept_at m o - m.of c
kept_fewer m c None = omega arith
kept_fewer m c (Some l) = m.fewer c l

known_adjust : (f : Live → Live) (k : List ℕ) (homes : ByName Live) → KeepsHomes homes (adjust homes k f)
known_adjust f k homes vsn there =
    elim (same_or paths k vsn) [
      | inl same ↦ subst (λ x. IsSome (get (adjust homes k f) x)) (sym same) (subst IsSome (sym (adjusted-here paths homes k f)) (mapped (get homes k) (subst (λ x. IsSome (get homes x)) same there)))
      | inr differ ↦ subst IsSome (sym (adjusted-beside paths homes k f vsn differ)) there
    ]
  where
    mapped : (o : Option Live) → IsSome o → IsSome (option_map f o)
    mapped None h = cc
    mapped (Some l) h = cc

pub known_kept : (old new : ByName Live) (cs : List Chunk) → KeepsHomes old new → Known old cs → Known new cs
known_kept old new [] keeps known = known
known_kept old new (c ∷ cs) keeps known = (keeps c.vsn.0 known.0, known_kept old new cs keeps known.1)

one_more : (m : Measure) (c : Chunk) (homes : ByName Live) (vsn : List ℕ) (rest : ℕ) → IsSome (get homes c.vsn.0)
    → kept_at m (get homes vsn) + cond (is_on vsn c) (m.of c + rest) rest < 2 ^ 128
    → kept_at m (get (adjust homes c.vsn.0 (with_more c.len)) vsn) + rest ≡ kept_at m (get homes vsn) + cond (is_on vsn c) (m.of c + rest) rest
one_more m c homes vsn rest there small =
    elim (same_or paths c.vsn.0 vsn) [
      | inl same ↦
          let on : is_on vsn c ≡ true = on_its c vsn same in
          let at : get (adjust homes c.vsn.0 (with_more c.len)) vsn ≡ option_map (with_more c.len) (get homes c.vsn.0) = ap (get (adjust homes c.vsn.0 (with_more c.len))) same ∙ adjusted-here paths homes c.vsn.0 (with_more c.len) in
          let here : get homes vsn ≡ get homes c.vsn.0 = ap (get homes) same in
          let whole : cond (is_on vsn c) (m.of c + rest) rest ≡ m.of c + rest = ap (λ t. cond t (m.of c + rest) rest) on in
          let before : kept_at m (get homes vsn) ≡ kept_at m (get homes c.vsn.0) = ap (kept_at m) here in
          let fits : kept_at m (get homes c.vsn.0) + m.of c < 2 ^ 128 = omega arith in
          let after : kept_at m (get (adjust homes c.vsn.0 (with_more c.len)) vsn) ≡ kept_at m (get homes c.vsn.0) + m.of c = ap (kept_at m) at ∙ kept_more m c (get homes c.vsn.0) there fits in
          omega arith
      | inr differ ↦
          let off : cond (is_on vsn c) (m.of c + rest) rest ≡ rest = ap (λ t. cond t (m.of c + rest) rest) (not_on c vsn differ) in
          let after : kept_at m (get (adjust homes c.vsn.0 (with_more c.len)) vsn) ≡ kept_at m (get homes vsn) = ap (kept_at m) (adjusted-beside paths homes c.vsn.0 (with_more c.len) vsn differ) in
          omega arith
    ]

one_fewer : (m : Measure) (c : Chunk) (homes : ByName Live) (vsn : List ℕ) (rest : ℕ)
    → kept_at m (get (adjust homes c.vsn.0 (with_fewer c.len)) vsn) - rest ≡ kept_at m (get homes vsn) - cond (is_on vsn c) (m.of c + rest) rest
one_fewer m c homes vsn rest =
    elim (same_or paths c.vsn.0 vsn) [
      | inl same ↦
          let at : get (adjust homes c.vsn.0 (with_fewer c.len)) vsn ≡ option_map (with_fewer c.len) (get homes c.vsn.0) = ap (get (adjust homes c.vsn.0 (with_fewer c.len))) same ∙ adjusted-here paths homes c.vsn.0 (with_fewer c.len) in
          let whole : cond (is_on vsn c) (m.of c + rest) rest ≡ m.of c + rest = ap (λ t. cond t (m.of c + rest) rest) (on_its c vsn same) in
          let before : kept_at m (get homes vsn) ≡ kept_at m (get homes c.vsn.0) = ap (λ x. kept_at m (get homes x)) same in
          let after : kept_at m (get (adjust homes c.vsn.0 (with_fewer c.len)) vsn) ≡ kept_at m (get homes c.vsn.0) - m.of c = ap (kept_at m) at ∙ kept_fewer m c (get homes c.vsn.0) in
          omega arith
      | inr differ ↦
          let off : cond (is_on vsn c) (m.of c + rest) rest ≡ rest = ap (λ t. cond t (m.of c + rest) rest) (not_on c vsn differ) in
          let after : kept_at m (get (adjust homes c.vsn.0 (with_fewer c.len)) vsn) ≡ kept_at m (get homes vsn) = ap (kept_at m) (adjusted-beside paths homes c.vsn.0 (with_fewer c.len) vsn differ) in
          omega arith
    ]

-- ---- a list of chunks

pub all_more : (m : Measure) (cs : List Chunk) (homes : ByName Live) (vsn : List ℕ) → Known homes cs → kept_at m (get homes vsn) + sum_in m vsn cs < 2 ^ 128
    → kept_at m (get (with_all cs homes) vsn) ≡ kept_at m (get homes vsn) + sum_in m vsn cs
unfolding with_all
all_more m [] homes vsn known small = omega arith
all_more m (c ∷ cs) homes vsn known small =
    let one = one_more m c homes vsn (sum_in m vsn cs) known.0 small in
    let fits : kept_at m (get (adjust homes c.vsn.0 (with_more c.len)) vsn) + sum_in m vsn cs < 2 ^ 128 = subst (λ n. n < 2 ^ 128) (sym one) small in
    all_more m cs (adjust homes c.vsn.0 (with_more c.len)) vsn (known_kept homes (adjust homes c.vsn.0 (with_more c.len)) cs (known_adjust (with_more c.len) c.vsn.0 homes) known.1) fits
    ∙ one

pub all_fewer : (m : Measure) (cs : List Chunk) (homes : ByName Live) (vsn : List ℕ)
    → kept_at m (get (without_all cs homes) vsn) ≡ kept_at m (get homes vsn) - sum_in m vsn cs
unfolding without_all
all_fewer m [] homes vsn = omega arith
all_fewer m (c ∷ cs) homes vsn =
    all_fewer m cs (adjust homes c.vsn.0 (with_fewer c.len)) vsn ∙ one_fewer m c homes vsn (sum_in m vsn cs)

keeps_then : (a b c : ByName Live) → KeepsHomes a b → KeepsHomes b c → KeepsHomes a c
keeps_then a b c h g vsn there = g vsn (h vsn there)

pub more_keeps : (cs : List Chunk) (homes : ByName Live) → KeepsHomes homes (with_all cs homes)
unfolding with_all
more_keeps [] homes = λ vsn there. there
more_keeps (c ∷ cs) homes =
    keeps_then homes (adjust homes c.vsn.0 (with_more c.len)) (with_all cs (adjust homes c.vsn.0 (with_more c.len))) (known_adjust (with_more c.len) c.vsn.0 homes) (more_keeps cs (adjust homes c.vsn.0 (with_more c.len)))

pub fewer_keeps : (cs : List Chunk) (homes : ByName Live) → KeepsHomes homes (without_all cs homes)
unfolding without_all
fewer_keeps [] homes = λ vsn there. there
fewer_keeps (c ∷ cs) homes =
    keeps_then homes (adjust homes c.vsn.0 (with_fewer c.len)) (without_all cs (adjust homes c.vsn.0 (with_fewer c.len))) (known_adjust (with_fewer c.len) c.vsn.0 homes) (fewer_keeps cs (adjust homes c.vsn.0 (with_fewer c.len)))

-- ---- how much a bitfile and all of them come to at most

-- a measure of which no chunk has more than its length
abbrev pub IsSmall : Measure → Type 0
IsSmall m = (c : Chunk) → 0 < c.len → m.of c ≤ c.len

sum_few : (m : Measure) → IsSmall m → (vsn : List ℕ) (from : ℕ) (cs : List Chunk) (to : ℕ) → Joins from cs to → sum_in m vsn cs + from ≤ to
sum_few m less vsn from [] to joins = omega arith
sum_few m less vsn from (c ∷ cs) to joins =
    let rest : sum_in m vsn cs + (from + c.len) ≤ to = sum_few m less vsn (from + c.len) cs to joins.2 in
    let here : m.of c ≤ c.len = less c joins.1 in
    elim (is_on vsn c) as (λ t. cond t (m.of c + sum_in m vsn cs) (sum_in m vsn cs) + from ≤ to) [ true ↦ omega arith | false ↦ omega arith ]

pub row_few : (m : Measure) → IsSmall m → (vsn : List ℕ) (r : BitfileRow) → IsWhole r → sum_in m vsn r.chunks < 2 ^ 64
row_few m less vsn r whole = let few = sum_few m less vsn 0 r.chunks r.len whole.joins in let small = whole.small in omega arith

all_few : (w : BitfileRow → ℕ) (es : List (ℕ × BitfileRow)) → AllByRecursion (λ e. w e.1 < 2 ^ 64) es → sum_of w es ≤ 2 ^ 64 * length es
all_few w [] all = omega arith
all_few w (e ∷ es) all = let rest = all_few w es all.1 in let here = all.0 in omega arith

pub sum_small : (m : Measure) → IsSmall m → (bitfiles : ByNumber BitfileRow) (vsn : List ℕ) → EachRow bitfiles (λ b r. IsWhole r) → sum_on m bitfiles vsn ≤ 2 ^ 64 * len bitfiles
sum_small m less bitfiles vsn whole =
    let few = all_few (λ r. sum_in m vsn r.chunks) (entries bitfiles) (entries-each numbers (λ b r. sum_in m vsn r.chunks < 2 ^ 64) bitfiles (λ b r e. row_few m less vsn r (whole b r e))) in
    let sum : sum_on m bitfiles vsn ≡ sum_of (λ r. sum_in m vsn r.chunks) (entries bitfiles) = total-entries (λ r. sum_in m vsn r.chunks) bitfiles in
    let many : len bitfiles ≡ length (entries bitfiles) = len-entries bitfiles in
    omega arith

-- ---- a bitfile comes and goes

pub holds_in : (m : Measure) → IsSmall m → (homes : ByName Live) (bitfiles : ByNumber BitfileRow) (b : ℕ) (r : BitfileRow) → EachRow bitfiles (λ b r. IsWhole r) → len bitfiles < 2 ^ 63
    → get bitfiles b ≡ None → IsWhole r → Known homes r.chunks → Holds m homes bitfiles → Holds m (with_all r.chunks homes) (insert bitfiles b r)
holds_in m less homes bitfiles b r whole few none new known holds vsn =
    let all = sum_small m less bitfiles vsn whole in
    let here = row_few m less vsn r new in
    let was : kept_at m (get homes vsn) ≡ sum_on m bitfiles vsn = holds vsn in
    let fits : kept_at m (get homes vsn) + sum_in m vsn r.chunks < 2 ^ 128 = omega arith in
    let is : kept_at m (get (with_all r.chunks homes) vsn) ≡ kept_at m (get homes vsn) + sum_in m vsn r.chunks = all_more m r.chunks homes vsn known fits in
    let put : sum_on m (insert bitfiles b r) vsn + weight_at (λ r. sum_in m vsn r.chunks) (get bitfiles b) ≡ sum_in m vsn r.chunks + sum_on m bitfiles vsn = total-insert numbers (λ r. sum_in m vsn r.chunks) bitfiles b r in
    let nothing : weight_at (λ r. sum_in m vsn r.chunks) (get bitfiles b) ≡ 0 = ap (weight_at (λ r. sum_in m vsn r.chunks)) none in
    omega arith

pub holds_out : (m : Measure) (homes : ByName Live) (bitfiles : ByNumber BitfileRow) (b : ℕ) (r : BitfileRow)
    → get bitfiles b ≡ Some r → Holds m homes bitfiles → Holds m (without_all r.chunks homes) (remove bitfiles b)
holds_out m homes bitfiles b r there holds vsn =
    let was : kept_at m (get homes vsn) ≡ sum_on m bitfiles vsn = holds vsn in
    let is : kept_at m (get (without_all r.chunks homes) vsn) ≡ kept_at m (get homes vsn) - sum_in m vsn r.chunks = all_fewer m r.chunks homes vsn in
    let out : sum_on m (remove bitfiles b) vsn + weight_at (λ r. sum_in m vsn r.chunks) (get bitfiles b) ≡ sum_on m bitfiles vsn = total-remove numbers (λ r. sum_in m vsn r.chunks) bitfiles b in
    let row : weight_at (λ r. sum_in m vsn r.chunks) (get bitfiles b) ≡ sum_in m vsn r.chunks = ap (weight_at (λ r. sum_in m vsn r.chunks)) there in
    omega arith

-- ---- the two measures

pub many_small : IsSmall how_many
many_small c long = long

pub long_small : IsSmall how_long
long_small c long = omega arith

many_in : (vsn : List ℕ) (cs : List Chunk) → sum_in how_many vsn cs ≡ count_in vsn cs
many_in vsn [] = refl
many_in vsn (c ∷ cs) = ap (λ n. cond (is_on vsn c) (1 + n) n) (many_in vsn cs)

long_in : (vsn : List ℕ) (cs : List Chunk) → sum_in how_long vsn cs ≡ live_in vsn cs
long_in vsn [] = refl
long_in vsn (c ∷ cs) = ap (λ n. cond (is_on vsn c) (c.len + n) n) (long_in vsn cs)

pub many_on : (bitfiles : ByNumber BitfileRow) (vsn : List ℕ) → sum_on how_many bitfiles vsn ≡ count_on bitfiles vsn
many_on bitfiles vsn = total-same numbers (λ r. sum_in how_many vsn r.chunks) (λ r. count_in vsn r.chunks) bitfiles (λ b r e. many_in vsn r.chunks)

pub long_on : (bitfiles : ByNumber BitfileRow) (vsn : List ℕ) → sum_on how_long bitfiles vsn ≡ live_on bitfiles vsn
long_on bitfiles vsn = total-same numbers (λ r. sum_in how_long vsn r.chunks) (λ r. live_in vsn r.chunks) bitfiles (λ b r e. long_in vsn r.chunks)

many_at : (o : Option Live) → kept_at how_many o ≡ chunks_at o
many_at None = refl
many_at (Some l) = refl

long_at : (o : Option Live) → kept_at how_long o ≡ bytes_at o
long_at None = refl
long_at (Some l) = refl

pub summed_of : (homes : ByName Live) (bitfiles : ByNumber BitfileRow) → Holds how_many homes bitfiles → Holds how_long homes bitfiles → Summed homes bitfiles
summed_of homes bitfiles many long = record {
  chunks = λ vsn. sym (many_at (get homes vsn)) ∙ many vsn ∙ many_on bitfiles vsn;
  bytes = λ vsn. sym (long_at (get homes vsn)) ∙ long vsn ∙ long_on bitfiles vsn;
}

pub holds_many : (homes : ByName Live) (bitfiles : ByNumber BitfileRow) → Summed homes bitfiles → Holds how_many homes bitfiles
holds_many homes bitfiles s vsn = many_at (get homes vsn) ∙ s.chunks vsn ∙ sym (many_on bitfiles vsn)

pub holds_long : (homes : ByName Live) (bitfiles : ByNumber BitfileRow) → Summed homes bitfiles → Holds how_long homes bitfiles
holds_long homes bitfiles s vsn = long_at (get homes vsn) ∙ s.bytes vsn ∙ sym (long_on bitfiles vsn)

-- ---- what the table keeps

pub summed_empty : (homes : ByName Live) (bitfiles : ByNumber BitfileRow) → homes ≡ empty → bitfiles ≡ empty → Summed homes bitfiles
summed_empty homes bitfiles none nothing = record {
  chunks = λ vsn. ap (λ h. chunks_at (get h vsn)) none ∙ ap chunks_at (get-empty _ vsn) ∙ sym (ap (λ m. count_on m vsn) nothing ∙ total-empty _ (λ row. count_in vsn row.chunks));
  bytes = λ vsn. ap (λ h. bytes_at (get h vsn)) none ∙ ap bytes_at (get-empty _ vsn) ∙ sym (ap (λ m. live_on m vsn) nothing ∙ total-empty _ (λ row. live_in vsn row.chunks));
}

pub summed_in : (homes more : ByName Live) (bitfiles after : ByNumber BitfileRow) (b : ℕ) (r : BitfileRow) → EachRow bitfiles (λ b r. IsWhole r) → len bitfiles < 2 ^ 63
    → get bitfiles b ≡ None → IsWhole r → Known homes r.chunks → more ≡ with_all r.chunks homes → after ≡ insert bitfiles b r → Summed homes bitfiles → Summed more after
summed_in homes more bitfiles after b r whole few none new known is put s =
    subst (λ h. Summed h after) (sym is) (subst (λ m. Summed (with_all r.chunks homes) m) (sym put)
    (summed_of (with_all r.chunks homes) (insert bitfiles b r)
    (holds_in how_many many_small homes bitfiles b r whole few none new known (holds_many homes bitfiles s))
    (holds_in how_long long_small homes bitfiles b r whole few none new known (holds_long homes bitfiles s))))

pub summed_out : (homes fewer : ByName Live) (bitfiles after : ByNumber BitfileRow) (b : ℕ) (r : BitfileRow)
    → get bitfiles b ≡ Some r → fewer ≡ without_all r.chunks homes → after ≡ remove bitfiles b → Summed homes bitfiles → Summed fewer after
summed_out homes fewer bitfiles after b r there is out s =
    subst (λ h. Summed h after) (sym is) (subst (λ m. Summed (without_all r.chunks homes) m) (sym out)
    (summed_of (without_all r.chunks homes) (remove bitfiles b)
    (holds_out how_many homes bitfiles b r there (holds_many homes bitfiles s))
    (holds_out how_long homes bitfiles b r there (holds_long homes bitfiles s))))

pub summed_same : (homes more : ByName Live) (bitfiles : ByNumber BitfileRow) → Same homes more → Summed homes bitfiles → Summed more bitfiles
summed_same homes more bitfiles same s = record {
  chunks = λ vsn. same.chunks vsn ∙ s.chunks vsn;
  bytes = λ vsn. same.bytes vsn ∙ s.bytes vsn;
}

-- ---- nothing lies on a volume that was not known

none_of : {X : Type 0} (o : Option X) → false ≡ is_some o → o ≡ None
none_of None e = refl
none_of (Some x) e = cc

put_here : (homes : ByName Live) (k q : List ℕ) (l : Live) → q ≡ k → get (insert homes k l) q ≡ Some l
put_here homes k q l same = ap (get (insert homes k l)) same ∙ get-here paths homes k l

pub same_zero : (homes after : ByName Live) (k : List ℕ) (l : Live) → false ≡ is_some (get homes k) → l.chunks ≡ 0 → l.bytes ≡ 0 → after ≡ insert homes k l → Same homes after
same_zero homes after k l unknown few short put =
    subst (Same homes) (sym put) record {
      chunks = λ vsn. at chunks_at vsn (few ∙ sym (ap chunks_at (none_of (get homes k) unknown)));
      bytes = λ vsn. at bytes_at vsn (short ∙ sym (ap bytes_at (none_of (get homes k) unknown)));
      kept = keeps;
    }
  where
    at : (f : Option Live → ℕ) (vsn : List ℕ) → f (Some l) ≡ f (get homes k) → f (get (insert homes k l) vsn) ≡ f (get homes vsn)
    at f vsn is =
        elim (same_or paths k vsn) [
          | inl same ↦ ap f (put_here homes k vsn l same) ∙ is ∙ sym (ap (λ q. f (get homes q)) same)
          | inr differ ↦ ap f (get-beside paths homes k l vsn differ)
        ]

    keeps : KeepsHomes homes (insert homes k l)
    keeps vsn there =
        elim (same_or paths k vsn) [
          | inl same ↦ subst IsSome (sym (put_here homes k vsn l same)) refl
          | inr differ ↦ subst IsSome (sym (get-beside paths homes k l vsn differ)) there
        ]

pub known_zero : (homes after : ByName Live) (k : List ℕ) (l : Live) → after ≡ insert homes k l → IsSome (get after k)
known_zero homes after k l put = subst (λ h. IsSome (get h k)) (sym put) (subst IsSome (sym (get-here paths homes k l)) refl)

pub same_refl : (homes : ByName Live) → Same homes homes
same_refl homes = record { chunks = λ vsn. refl; bytes = λ vsn. refl; kept = λ vsn there. there }

pub same_then : (a b c : ByName Live) → Same a b → Same b c → Same a c
same_then a b c h g = record {
  chunks = λ vsn. g.chunks vsn ∙ h.chunks vsn;
  bytes = λ vsn. g.bytes vsn ∙ h.bytes vsn;
  kept = λ vsn there. g.kept vsn (h.kept vsn there);
}

pub kept_moved : (homes fewer more : ByName Live) (gone_chunks come_chunks : List Chunk) → fewer ≡ without_all gone_chunks homes → more ≡ with_all come_chunks fewer → KeepsHomes homes more
kept_moved homes fewer more gone_chunks come_chunks gone came =
    subst (KeepsHomes homes) (sym came)
    (keeps_then homes fewer (with_all come_chunks fewer) (subst (KeepsHomes homes) (sym gone) (fewer_keeps gone_chunks homes)) (more_keeps come_chunks fewer))
