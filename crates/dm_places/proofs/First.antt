-- The chunk that a merge moves next, by the spots of the chunks on the volume.
use Rattle.std.proofs.Common.{◌≡◌, ◌⊎◌, inl, inr, ℕ, ◌<◌, ◌≤◌, true, false, cond, nat_le, T, Option, Some, None, List, [], ◌∷◌, ◌++◌, All, Contains, map as map_list, refl, sym, ap, subst, ◌∙◌, arith, Less, nat_cmp, leb-true}
use Rattle.std.specs.List.{AllByRecursion, filter, flat_map}
use Rattle.std.specs.Ordering.{eq_by_cmp}
use Rattle.std.specs.FinMap as map
use Rattle.std.specs.FinMap.{entries_sorted, find, get-entries, is_sorted}
use Rattle.std.specs.FinMap.Entries.{below_all}
use Rattle.std.proofs.lemmas.Bool.{leb-false}
use Rattle.std.proofs.lemmas.Cmp.{ranked}
use Rattle.std.proofs.lemmas.List.Elements.{All-nil, All-cons, All-head, All-tail, All-append, All-contains, Contains-append_left, Contains-append_right}
use Rattle.dm_base.specs.declared.volume.Chunk.{Chunk}
use Rattle.dm_durable.specs.Group.{is_on}
use Rattle.dm_durable.specs.Tables.{ByNumber}
use Rattle.dm_durable.specs.Volumes.{LiveChunk, chunks_on, first_on, further_in_front, least_placed, live_chunk}
use Rattle.dm_durable.specs.declared.group.BitfileRow.{BitfileRow}
use Rattle.dm_tables.specs.Rows.{EachRow}
use Rattle.dm_tables.proofs.Entries.{entries-each, first, less, second}
use Rattle.dm_tables.proofs.Orders.{numbers, same_of}
use Rattle.dm_places.specs.Chunks.{Ascends, EachSpotOn, spot_of}
use Rattle.dm_places.specs.Order.{IsNotPast}
use Rattle.dm_places.specs.declared.spot.Spot.{Spot}
use Rattle.dm_places.proofs.Found.{among_cases, among_first, among_later, among_none}

-- ---- the least of a list

abbrev spot_at : LiveChunk → Spot
spot_at l = spot_of l.bfid.0 l.chunk

-- x comes before y by bitfile, or in one bitfile by offset
abbrev IsBefore : LiveChunk → LiveChunk → Type 0
IsBefore x y = (x.bfid.0 < y.bfid.0) ⊎ ((x.bfid.0 ≡ y.bfid.0) × (x.chunk.offset < y.chunk.offset))

abbrev IsOrdered : List LiveChunk → Type 0
IsOrdered [] = Unit {0}
IsOrdered (x ∷ xs) = All (IsBefore x) xs × IsOrdered xs

no_later : (x y : LiveChunk) → IsNotPast (spot_at x) (spot_at y) → x.chunk.place ≤ y.chunk.place
no_later x y (inl p) = omega arith
no_later x y (inr p) = let e = p.0 in omega arith

-- what comes before x and doesn't lie in front of it lies past it by its place
lies_past : (x y : LiveChunk) → IsBefore y x → IsNotPast (spot_at x) (spot_at y) → x.chunk.place < y.chunk.place
lies_past x y before (inl p) = p
lies_past x y (inl b) (inr (at, inl p)) = absurd (omega arith)
lies_past x y (inl b) (inr (at, inr p)) = absurd (let e = p.0 in omega arith)
lies_past x y (inr b) (inr (at, inl p)) = absurd (let e = b.0 in omega arith)
lies_past x y (inr b) (inr (at, inr p)) = absurd (let e = p.1 in let f = b.1 in omega arith)

leads : (x : LiveChunk) (o : Option LiveChunk) → ((y : LiveChunk) → o ≡ Some y → x.chunk.place ≤ y.chunk.place) → further_in_front x o ≡ x
leads x None upto = refl
leads x (Some y) upto =
    elim (nat_le x.chunk.place y.chunk.place) as (λ b. nat_le x.chunk.place y.chunk.place ≡ b → cond b x y ≡ x) [
      | true ↦ λ e. refl
      | false ↦ λ e. absurd (let h = upto y refl in let f = leb-false x.chunk.place y.chunk.place e in omega arith)
    ] refl

yields : (x y : LiveChunk) → y.chunk.place < x.chunk.place → further_in_front x (Some y) ≡ y
yields x y past =
    elim (nat_le x.chunk.place y.chunk.place) as (λ b. nat_le x.chunk.place y.chunk.place ≡ b → cond b x y ≡ y) [
      | true ↦ λ e. absurd (let h = leb-true x.chunk.place y.chunk.place e in omega arith)
      | false ↦ λ e. refl
    ] refl

least_among : (xs : List LiveChunk) (x : LiveChunk) → least_placed xs ≡ Some x → Contains xs x
least_among [] x e = absurd (cc)
least_among (y ∷ ys) x e =
    elim (least_placed ys) as (λ o. least_placed ys ≡ o → Some (further_in_front y o) ≡ Some x → Contains (y ∷ ys) x) [
      | None ↦ λ none f. let same : y ≡ x = cc in subst (λ z. Contains (y ∷ ys) z) same (among_first y ys)
      | Some z ↦ λ some f.
          elim (nat_le y.chunk.place z.chunk.place) as (λ b. Some (cond b y z) ≡ Some x → Contains (y ∷ ys) x) [
            | true ↦ λ h. let same : y ≡ x = cc in subst (λ w. Contains (y ∷ ys) w) same (among_first y ys)
            | false ↦ λ h. let same : z ≡ x = cc in subst (λ w. Contains (y ∷ ys) w) same (among_later z y ys (least_among ys z some))
          ] f
    ] refl e

least_is : (xs : List LiveChunk) (x : LiveChunk) → IsOrdered xs → Contains xs x → All (λ y. IsNotPast (spot_at x) (spot_at y)) xs → least_placed xs ≡ Some x
least_is [] x ordered among least = absurd (among_none x among)
least_is (y ∷ ys) x (before, ordered) among least =
    let after = All-tail (λ z. IsNotPast (spot_at x) (spot_at z)) y ys least in
    elim (among_cases x y ys among) [
      | inl same ↦
          ap (λ z. Some z) (leads y (least_placed ys) (λ z e.
          subst (λ w. w.chunk.place ≤ z.chunk.place) (sym same) (no_later x z (All-contains (λ w. IsNotPast (spot_at x) (spot_at w)) ys z after (least_among ys z e)))) ∙ same)
      | inr later ↦
          let past = lies_past x y (All-contains (IsBefore y) ys x before later) (All-head (λ z. IsNotPast (spot_at x) (spot_at z)) y ys least) in
          ap (λ o. Some (further_in_front y o)) (least_is ys x ordered later after) ∙ ap (λ z. Some z) (yields y x past)
    ]

ordered_both : (xs ys : List LiveChunk) → IsOrdered xs → IsOrdered ys → All (λ x. All (IsBefore x) ys) xs → IsOrdered (xs ++ ys)
ordered_both [] ys front back across = back
ordered_both (x ∷ xs) ys (before, front) back across = (
  All-append (IsBefore x) xs ys before (All-head (λ z. All (IsBefore z) ys) x xs across),
  ordered_both xs ys front back (All-tail (λ z. All (IsBefore z) ys) x xs across),
)

-- ---- the chunks on a volume

module _ (vsn : List ℕ) where
  -- those of one bitfile
  abbrev lying : ℕ → BitfileRow → List Chunk → List LiveChunk
  lying b row chunks = map_list (live_chunk b row) (filter (is_on vsn) chunks)

  -- those of several
  abbrev all_lying : List (ℕ × BitfileRow) → List LiveChunk
  all_lying = flat_map (λ e. lying e.0 e.1 e.1.chunks)

  each_lying : (P : LiveChunk → Type 0) (b : ℕ) (row : BitfileRow) (chunks : List Chunk)
      → ((c : Chunk) → Contains chunks c → is_on vsn c ≡ true → P (live_chunk b row c)) → All P (lying b row chunks)
  each_lying P b row [] each = All-nil P
  each_lying P b row (c ∷ cs) each =
      let rest = each_lying P b row cs (λ d among on. each d (among_later d c cs among) on) in
      elim (is_on vsn c) as (λ t. is_on vsn c ≡ t → All P (map_list (live_chunk b row) (cond t (c ∷ filter (is_on vsn) cs) (filter (is_on vsn) cs)))) [
        | true ↦ λ on. All-cons P (live_chunk b row c) (lying b row cs) (each c (among_first c cs) on) rest
        | false ↦ λ off. rest
      ] refl

  each_of_all : (P : LiveChunk → Type 0) (es : List (ℕ × BitfileRow)) → AllByRecursion (λ e. All P (lying e.0 e.1 e.1.chunks)) es → All P (all_lying es)
  each_of_all P [] each = All-nil P
  each_of_all P (e ∷ es) each = All-append P (lying e.0 e.1 e.1.chunks) (all_lying es) each.0 (each_of_all P es each.1)

  among_lying : (b : ℕ) (row : BitfileRow) (c : Chunk) (chunks : List Chunk) → is_on vsn c ≡ true → Contains chunks c → Contains (lying b row chunks) (live_chunk b row c)
  among_lying b row c [] on among = absurd (among_none c among)
  among_lying b row c (d ∷ ds) on among =
      elim (is_on vsn d) as (λ t. is_on vsn d ≡ t → Contains (map_list (live_chunk b row) (cond t (d ∷ filter (is_on vsn) ds) (filter (is_on vsn) ds))) (live_chunk b row c)) [
        | true ↦ λ here. elim (among_cases c d ds among) [
          | inl same ↦ subst (λ x. Contains (live_chunk b row d ∷ lying b row ds) (live_chunk b row x)) same (among_first (live_chunk b row d) (lying b row ds))
          | inr later ↦ among_later (live_chunk b row c) (live_chunk b row d) (lying b row ds) (among_lying b row c ds on later)
        ]
        | false ↦ λ off. elim (among_cases c d ds among) [
          | inl same ↦ absurd (let f = ap (is_on vsn) same in cc)
          | inr later ↦ among_lying b row c ds on later
        ]
      ] refl

  among_all : (b : ℕ) (row : BitfileRow) (c : Chunk) (es : List (ℕ × BitfileRow)) → is_on vsn c ≡ true → Contains row.chunks c → find nat_cmp b es ≡ Some row
      → Contains (all_lying es) (live_chunk b row c)
  among_all b row c [] on among at = absurd (cc)
  among_all b row c (e ∷ es) on among at =
      elim (eq_by_cmp nat_cmp b e.0) as (λ t. eq_by_cmp nat_cmp b e.0 ≡ t → cond t (Some e.1) (find nat_cmp b es) ≡ Some row → Contains (all_lying (e ∷ es)) (live_chunk b row c)) [
        | true ↦ λ t f.
            let same : b ≡ e.0 = same_of numbers b e.0 t in
            let is : e.1 ≡ row = cc in
            let here = subst (λ r. Contains (lying b r r.chunks) (live_chunk b row c)) (sym is) (among_lying b row c row.chunks on among) in
            Contains-append_left (lying e.0 e.1 e.1.chunks) (all_lying es) (live_chunk b row c) (subst (λ k. Contains (lying k e.1 e.1.chunks) (live_chunk b row c)) same here)
        | false ↦ λ t f. Contains-append_right (lying e.0 e.1 e.1.chunks) (all_lying es) (live_chunk b row c) (among_all b row c es on among f)
      ] refl at

  ordered_lying : (b : ℕ) (row : BitfileRow) (chunks : List Chunk) → Ascends chunks → IsOrdered (lying b row chunks)
  ordered_lying b row [] ascends = tt
  ordered_lying b row (c ∷ cs) (behind, ascends) =
      elim (is_on vsn c) as (λ t. IsOrdered (map_list (live_chunk b row) (cond t (c ∷ filter (is_on vsn) cs) (filter (is_on vsn) cs)))) [
        | true ↦ (
          each_lying (IsBefore (live_chunk b row c)) b row cs (λ d among on. inr (refl, All-contains (λ x. c.offset < x.offset) cs d behind among)),
          ordered_lying b row cs ascends,
        )
        | false ↦ ordered_lying b row cs ascends
      ]

  all_before : (x : LiveChunk) (es : List (ℕ × BitfileRow)) → T (below_all nat_cmp x.bfid.0 es) → All (IsBefore x) (all_lying es)
  all_before x [] below = All-nil (IsBefore x)
  all_before x (e ∷ es) below =
      let lower : x.bfid.0 < e.0 = ranked x.bfid.0 e.0 Less (sym (less _ (first _ _ below))) in
      All-append (IsBefore x) (lying e.0 e.1 e.1.chunks) (all_lying es) (each_lying (IsBefore x) e.0 e.1 e.1.chunks (λ c among on. inl lower))
      (all_before x es (second _ _ below))

  ordered_all : (es : List (ℕ × BitfileRow)) → T (is_sorted nat_cmp es) → AllByRecursion (λ e. Ascends e.1.chunks) es → IsOrdered (all_lying es)
  ordered_all [] sorted each = tt
  ordered_all (e ∷ es) sorted each =
      ordered_both (lying e.0 e.1 e.1.chunks) (all_lying es) (ordered_lying e.0 e.1 e.1.chunks each.0) (ordered_all es (second _ _ sorted) each.1)
      (each_lying (λ x. All (IsBefore x) (all_lying es)) e.0 e.1 e.1.chunks (λ c among on. all_before (live_chunk e.0 e.1 c) es (first _ _ sorted)))

module _ (bitfiles : ByNumber BitfileRow) (vsn : List ℕ) where
  each_on : (P : LiveChunk → Type 0) → EachRow bitfiles (λ b row. (c : Chunk) → Contains row.chunks c → is_on vsn c ≡ true → P (live_chunk b row c)) → All P (chunks_on bitfiles vsn)
  each_on P each =
      each_of_all vsn P (map.entries bitfiles)
      (entries-each numbers (λ b row. All P (lying vsn b row row.chunks)) bitfiles (λ b row is. each_lying vsn P b row row.chunks (each b row is)))

  -- a chunk on the volume is the next where its spot lies past that of none
  pub first_on_is : (b : ℕ) (row : BitfileRow) (c : Chunk) → EachRow bitfiles (λ b row. Ascends row.chunks) → map.get bitfiles b ≡ Some row
      → Contains row.chunks c → is_on vsn c ≡ true → EachSpotOn bitfiles vsn (IsNotPast (spot_of b c)) → first_on bitfiles vsn ≡ Some (live_chunk b row c)
  first_on_is b row c ascend is among on least =
      least_is (chunks_on bitfiles vsn) (live_chunk b row c)
      (ordered_all vsn (map.entries bitfiles) (entries_sorted bitfiles) (entries-each numbers (λ b row. Ascends row.chunks) bitfiles ascend))
      (among_all vsn b row c (map.entries bitfiles) on among (sym (get-entries bitfiles b) ∙ is))
      (each_on (λ y. IsNotPast (spot_of b c) (spot_at y)) least)

  -- there is none where no chunk is on the volume
  pub first_on_none : EachSpotOn bitfiles vsn (λ s. ⊥) → first_on bitfiles vsn ≡ None
  first_on_none none =
      elim (chunks_on bitfiles vsn) as (λ xs. All (λ x. ⊥) xs → least_placed xs ≡ None) [
        | [] ↦ λ all. refl
        | x ∷ xs ↦ λ all. absurd (All-head (λ x. ⊥) x xs all)
      ] (each_on (λ x. ⊥) none)
