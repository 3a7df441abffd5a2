-- The chunk of a volume that lies furthest in front, found one chunk after another.
use Rattle.std.proofs.Common.{◌≡◌, ℕ, Bool, true, false, cond, List, [], ◌∷◌, ◌++◌, refl, sym, ap, ◌∙◌, arith, nat_le, Option, None, Some, filter, inl, inr}
use Rattle.std.specs.Prelude as prelude
use Rattle.std.specs.List.{flat_map}
use Rattle.std.specs.FinMap.{entries}
use Rattle.std.proofs.lemmas.Bool.{cases_lt, le-leb, lt-leb}
use Rattle.dm_base.specs.declared.volume.Chunk.{Chunk}
use Rattle.dm_durable.specs.declared.group.BitfileRow.{BitfileRow}
use Rattle.dm_durable.specs.Group.{is_on}
use Rattle.dm_durable.specs.Tables.{ByNumber}
use Rattle.dm_durable.specs.Volumes.{LiveChunk, first_on, further_in_front, least_placed, live_chunk}
use Rattle.dm_group_usage.specs.Found.{furthest, in_front}

-- ---- one after another is as by the definition
among : (y x : LiveChunk) (z : Option LiveChunk) → further_in_front (in_front (Some y) x) z ≡ further_in_front y (Some (further_in_front x z))
among y x None = refl
among y x (Some z) =
    elim (cases_lt x.chunk.place y.chunk.place) [
      | inl l ↦ elim (cases_lt z.chunk.place x.chunk.place) [
        | inl m ↦
            let a = lt-leb y.chunk.place x.chunk.place l in
            let b = lt-leb x.chunk.place z.chunk.place m in
            let c = lt-leb y.chunk.place z.chunk.place (omega arith) in
            left false a ∙ ap (λ t. cond t x z) b ∙ sym (ap (λ t. cond t y z) c) ∙ sym (right false b)
        | inr m ↦
            let a = lt-leb y.chunk.place x.chunk.place l in
            let b = le-leb x.chunk.place z.chunk.place m in
            left false a ∙ ap (λ t. cond t x z) b ∙ sym (ap (λ t. cond t y x) a) ∙ sym (right true b)
      ]
      | inr l ↦ elim (cases_lt z.chunk.place x.chunk.place) [
        | inl m ↦
            let a = le-leb y.chunk.place x.chunk.place l in
            let b = lt-leb x.chunk.place z.chunk.place m in
            left true a ∙ sym (right false b)
        | inr m ↦
            let a = le-leb y.chunk.place x.chunk.place l in
            let b = le-leb x.chunk.place z.chunk.place m in
            let c = le-leb y.chunk.place z.chunk.place (omega arith) in
            left true a ∙ ap (λ t. cond t y z) c ∙ sym (ap (λ t. cond t y x) a) ∙ sym (right true b)
      ]
    ]
  where
    in_order : LiveChunk → LiveChunk → LiveChunk
    in_order p q = cond (nat_le p.chunk.place q.chunk.place) p q

    left : (b : Bool) → nat_le y.chunk.place x.chunk.place ≡ b → further_in_front (in_front (Some y) x) (Some z) ≡ in_order (cond b y x) z
    left b is = ap (λ t. in_order (cond t y x) z) is

    right : (b : Bool) → nat_le x.chunk.place z.chunk.place ≡ b → further_in_front y (Some (further_in_front x (Some z))) ≡ in_order y (cond b x z)
    right b is = ap (λ t. in_order y (cond t x z)) is

found_more : (y : LiveChunk) (xs : List LiveChunk) → furthest (Some y) xs ≡ Some (further_in_front y (least_placed xs))
found_more y [] = refl
found_more y (x ∷ xs) = found_more (in_front (Some y) x) xs ∙ ap (λ l. Some l) (among y x (least_placed xs))

least_found : (xs : List LiveChunk) → furthest None xs ≡ least_placed xs
least_found [] = refl
least_found (x ∷ xs) = found_more x xs

furthest_apart : (found : Option LiveChunk) (xs ys : List LiveChunk) → furthest found (xs ++ ys) ≡ furthest (furthest found xs) ys
furthest_apart found [] ys = refl
furthest_apart found (x ∷ xs) ys = furthest_apart (Some (in_front found x)) xs ys

-- ---- a loop over the chunks of a bitfile
abbrev pub live_in_row : ℕ → BitfileRow → List ℕ → List Chunk → List LiveChunk
live_in_row b row vsn cs = prelude.map (live_chunk b row) (filter (is_on vsn) cs)

pub near_on : (b : ℕ) (row : BitfileRow) (vsn : List ℕ) (found more : Option LiveChunk) (cs rest : List Chunk) (c : Chunk) (whole : Option LiveChunk) → cs ≡ c ∷ rest → more ≡ cond (is_on vsn c) (Some (in_front found (live_chunk b row c))) found → furthest found (live_in_row b row vsn cs) ≡ whole → furthest more (live_in_row b row vsn rest) ≡ whole
near_on b row vsn found more cs rest c whole is next so =
    ap (λ m. furthest m (live_in_row b row vsn rest)) next ∙ either (is_on vsn c)
    ∙ sym (ap (λ l. furthest found (live_in_row b row vsn l)) is) ∙ so
  where
    either : (t : Bool) → furthest (cond t (Some (in_front found (live_chunk b row c))) found) (live_in_row b row vsn rest) ≡ furthest found (prelude.map (live_chunk b row) (cond t (c ∷ filter (is_on vsn) rest) (filter (is_on vsn) rest)))
    either true = refl
    either false = refl

pub near_end : (b : ℕ) (row : BitfileRow) (vsn : List ℕ) (found : Option LiveChunk) (cs : List Chunk) (whole : Option LiveChunk) → cs ≡ [] → furthest found (live_in_row b row vsn cs) ≡ whole → found ≡ whole
near_end b row vsn found cs whole none so = sym (ap (λ l. furthest found (live_in_row b row vsn l)) none) ∙ so

-- ---- a loop over the bitfiles
abbrev pub live_in_rows : List ℕ → List (ℕ × BitfileRow) → List LiveChunk
live_in_rows vsn es = flat_map (λ e. prelude.map (live_chunk e.0 e.1) (filter (is_on vsn) e.1.chunks)) es

pub far_begin : (vsn : List ℕ) (found : Option LiveChunk) (es : List (ℕ × BitfileRow)) (bitfiles : ByNumber BitfileRow) → found ≡ None → es ≡ entries bitfiles → furthest found (live_in_rows vsn es) ≡ first_on bitfiles vsn
far_begin vsn found es bitfiles none is =
    ap (λ f. furthest f (live_in_rows vsn es)) none ∙ ap (λ l. furthest None (live_in_rows vsn l)) is
    ∙ least_found (live_in_rows vsn (entries bitfiles))

pub far_on : (vsn : List ℕ) (found more : Option LiveChunk) (es rest : List (ℕ × BitfileRow)) (b : ℕ) (row : BitfileRow) (whole : Option LiveChunk) → es ≡ (b, row) ∷ rest → more ≡ furthest found (prelude.map (live_chunk b row) (filter (is_on vsn) row.chunks)) → furthest found (live_in_rows vsn es) ≡ whole → furthest more (live_in_rows vsn rest) ≡ whole
far_on vsn found more es rest b row whole is next so =
    ap (λ m. furthest m (live_in_rows vsn rest)) next
    ∙ sym (furthest_apart found (prelude.map (live_chunk b row) (filter (is_on vsn) row.chunks)) (live_in_rows vsn rest))
    ∙ sym (ap (λ l. furthest found (live_in_rows vsn l)) is) ∙ so

pub far_end : (vsn : List ℕ) (found : Option LiveChunk) (es : List (ℕ × BitfileRow)) (whole : Option LiveChunk) → es ≡ [] → furthest found (live_in_rows vsn es) ≡ whole → found ≡ whole
far_end vsn found es whole none so = sym (ap (λ l. furthest found (live_in_rows vsn l)) none) ∙ so
