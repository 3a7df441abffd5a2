-- What the calls on a table owe, over the list of its boxes, whatever its keys are.
use Rattle.std.proofs.Common.{◌≡◌, ℕ, suc, zero, ◌+◌, ◌<◌, ◌≤◌, Bool, true, false, T, List, [], ◌∷◌, ◌++◌, Option, None, Some, Result, Ok, Err, length, set, take, drop, get_or, map, is_some, IsTrue, refl, sym, ap, subst, ◌∙◌, arith, Ordering, slice_get, option_map}
use Rattle.std.proofs.lemmas.List.{map-set, map-append, take-map, drop-map, length-map, take_at, take_all, drop_all, append-nil}
use Rattle.std.proofs.lemmas.List.Edits.{map_over_more}
use Rattle.std.proofs.lemmas.Option.{slice_get-map, slice_get_read, slice_get_past, slice_get-get_or}
use Rattle.std.specs.List as holes
use Rattle.std.specs.FinMap.{FinMap, get, insert, remove, is_sorted, entries, from_entries, len}
use Rattle.dm_tables.specs.Rows.{adjust, map_values, changed, row_after}
use Rattle.dm_tables.proofs.Orders.{KeyOrder}
use Rattle.dm_tables.proofs.Rows.{remove-none}
use Rattle.dm_rows.specs.Rows.{rank}
use Rattle.dm_rows.specs.Places.{with_key, place_of, row_of, text_row_of, EditsAt}
use Rattle.std.specs.Global.{Box}
use Rattle.std.specs.Box.{with_value}
use Rattle.dm_rows.proofs.Search.{place_past, place_before, hit_small, miss_small, found_key}
use Rattle.dm_rows.proofs.Tables.{len-rows, get-hit, get-miss, entry-rows, after-rows, first-rows, rank-rows, insert-rows, insert-sorted, replace-rows, replace-sorted, adjust-rows, adjust-sorted, adjust-miss, remove-rows, remove-sorted, changed-rows, changed-sorted}

pub holds_of : (b : Bool) → IsTrue b → T b
holds_of b e = subst T (sym e) tt

pub true_of : (b : Bool) → T b → IsTrue b
true_of true h = refl
true_of false h = absurd h

-- the boxes hold the rows of m, in order
pub record Stands {A K V : Type 0} {R : K → K → Ordering} (f : A → K × V) (items : List A) (m : FinMap R V) : Type 0 where
  pub order : IsTrue (is_sorted R (map f items))
  pub is : from_entries {R = R} (map f items) ≡ m

-- where a search answered
pub answered : {A K V : Type 0} (R : K → K → Ordering) (f : A → K × V) (k : K) (xs items : List A) (r q : Result ℕ ℕ) → xs ≡ items → r ≡ place_of R k (map f xs) → r ≡ q → place_of R k (map f items) ≡ q
answered R f k xs items r q same placed is = ap (λ l. place_of R k (map f l)) (sym same) ∙ sym placed ∙ is

-- an element that was read satisfies what is said of reading it
read_again : {A : Type 0} (l : List A) (i : ℕ) (y : A) → i < length l → get_or l i y ≡ get_or l i (get_or l i y)
read_again [] i y small = absurd (omega arith)
read_again (x ∷ l) zero y small = refl
read_again (x ∷ l) (suc i) y small = read_again l i y (omega arith)

some_there : {A V : Type 0} {g : A → V} {found : Option V} (l : List A) (i : ℕ) → i < length l → ((x : A) → x ≡ get_or l i x → Some (g x) ≡ found) → true ≡ is_some found
some_there [] i small row = absurd (omega arith)
some_there (y ∷ l) i small row = ap is_some (row (get_or (y ∷ l) i y) (read_again (y ∷ l) i y small))

-- the value of a row that was looked up
pub value_of_row : {K V : Type 0} (k : K) (e : K × V) (found : Option V) → Some e ≡ with_key k found → Some e.1 ≡ found
value_of_row k e None is = cc
value_of_row k e (Some v) is = let same : e ≡ (k, v) = cc in ap (λ a. Some a.1) same

pub no_value : {K V : Type 0} (k : K) (found : Option V) → None ≡ with_key k found → None ≡ found
no_value k None is = refl
no_value k (Some v) is = cc

map-insert : {A B : Type 0} (f : A → B) (xs : List A) (i : ℕ) (x : A) → map f (holes.insert xs i x) ≡ holes.insert (map f xs) i (f x)
map-insert f xs i x =
    map-append f (take i xs) (x ∷ drop i xs)
    ∙ ap (◌++ map f (x ∷ drop i xs)) (sym (take-map f i xs))
    ∙ ap (λ l. take i (map f xs) ++ f x ∷ l) (sym (drop-map f i xs))

map-remove : {A B : Type 0} (f : A → B) (xs : List A) (i : ℕ) → map f (holes.remove xs i) ≡ holes.remove (map f xs) i
map-remove f xs i =
    map-append f (take i xs) (drop (suc i) xs)
    ∙ ap (◌++ map f (drop (suc i) xs)) (sym (take-map f i xs))
    ∙ ap (λ l. take i (map f xs) ++ l) (sym (drop-map f (suc i) xs))

module _ {A K V : Type 0} {R : K → K → Ordering} (o : KeyOrder R) (f : A → K × V) (items : List A) (m : FinMap R V) (s : Stands f items m) where
  sorted : T (is_sorted R (map f items))
  sorted = holds_of _ s.order

  pub len_is : len m ≡ length items
  len_is = sym (ap len s.is) ∙ len-rows o (map f items) sorted ∙ length-map items f

  pub entry_is : (i : ℕ) → option_map f (slice_get items i) ≡ slice_get (entries m) i
  entry_is i = sym (slice_get-map f items i) ∙ sym (entry-rows o (map f items) i sorted) ∙ ap (λ t. slice_get (entries t) i) s.is

  pub entry_some : (l : List A) (i : ℕ) (x : A) (e : K × V) → l ≡ items → i < length l → x ≡ get_or l i x → e ≡ f x → Some e ≡ slice_get (entries m) i
  entry_some l i x e same small read is =
      ap (λ a. Some a) is ∙ ap (option_map f) (sym (slice_get_read l (length l) i x refl small read) ∙ ap (λ a. slice_get a i) same) ∙ entry_is i

  pub entry_none : (l : List A) (i : ℕ) → l ≡ items → length l ≤ i → None ≡ slice_get (entries m) i
  entry_none l i same large = ap (option_map f) (sym (slice_get_past l i large) ∙ ap (λ a. slice_get a i) same) ∙ entry_is i

  -- ---- where the row was found
  module _ (k : K) (i : ℕ) (hit : place_of R k (map f items) ≡ Ok i) where
    pub hit_within : i < length items
    hit_within = let long = length-map items f in let small = hit_small o k (map f items) i hit in omega arith

    read_there : (x : A) → x ≡ get_or items i x → slice_get (map f items) i ≡ Some (f x)
    read_there x read = slice_get-map f items i ∙ ap (option_map f) (slice_get_read items (length items) i x refl hit_within read)

    pub row_there : (x : A) → x ≡ get_or items i x → Some (f x).1 ≡ get m k
    row_there x read = sym (ap (λ t. get t k) (sym s.is) ∙ get-hit o k (map f items) i hit ∙ ap (option_map (λ e. e.1)) (read_there x read))

    pub row_taken : (x : A) → x ≡ get_or items i x → Some (f x) ≡ with_key k (get m k)
    row_taken x read =
        ap (λ q. Some (q, (f x).1)) (found_key o k (map f items) i (f x) hit (read_there x read)) ∙ ap (with_key k) (row_there x read)

    pub is_there : true ≡ is_some (get m k)
    is_there = some_there items i hit_within (λ x read. row_there x read)

    pub past_there : row_after m (Some k) ≡ slice_get (entries m) (suc i)
    past_there =
        ap (λ t. row_after t (Some k)) (sym s.is) ∙ after-rows o k (map f items) sorted
        ∙ ap (λ r. slice_get (map f items) (place_past r)) hit
        ∙ slice_get-map f items (suc i) ∙ entry_is (suc i)

    pub rank_there : i ≡ rank m k
    rank_there = sym (ap (λ t. rank t k) (sym s.is) ∙ rank-rows o k (map f items) sorted ∙ ap place_before hit)

    pub replaced : (x : A) (v : V) → f x ≡ (k, v) → from_entries {R = R} (map f (set items i x)) ≡ insert m k v
    replaced x v is =
        ap (from_entries {R = R}) (map-set f items i x ∙ ap (set (map f items) i) is)
        ∙ replace-rows o k v (map f items) i sorted hit ∙ ap (λ t. insert t k v) s.is

    pub replaced_order : (x : A) (v : V) → f x ≡ (k, v) → IsTrue (is_sorted R (map f (set items i x)))
    replaced_order x v is =
        true_of _ (subst (λ l. T (is_sorted R l)) (sym (map-set f items i x ∙ ap (set (map f items) i) is)) (replace-sorted o k v (map f items) i sorted hit))

    pub taken : from_entries {R = R} (map f (holes.remove items i)) ≡ remove m k
    taken = ap (from_entries {R = R}) (map-remove f items i) ∙ remove-rows o k (map f items) i sorted hit ∙ ap (λ t. remove t k) s.is

    pub taken_order : IsTrue (is_sorted R (map f (holes.remove items i)))
    taken_order = true_of _ (subst (λ l. T (is_sorted R l)) (sym (map-remove f items i)) (remove-sorted o k (map f items) i sorted hit))

    pub edited : (g : V → V) (after : List A) → EditsAt g i (map f items) (map f after) → from_entries {R = R} (map f after) ≡ adjust m k g
    edited g after e =
        ap (from_entries {R = R}) e.2 ∙ adjust-rows o k g (map f items) i e.0 sorted hit e.1 ∙ ap (λ t. adjust t k g) s.is

    pub edited_order : (g : V → V) (after : List A) → EditsAt g i (map f items) (map f after) → IsTrue (is_sorted R (map f after))
    edited_order g after e =
        true_of _ (subst (λ l. T (is_sorted R l)) (sym e.2) (adjust-sorted o k (g e.0.1) (map f items) i e.0 sorted hit e.1))

  -- ---- where it wasn't
  module _ (k : K) (i : ℕ) (miss : place_of R k (map f items) ≡ Err i) where
    pub miss_within : i ≤ length items
    miss_within = let long = length-map items f in let small = miss_small o k (map f items) i miss in omega arith

    pub none_there : None ≡ get m k
    none_there = sym (ap (λ t. get t k) (sym s.is) ∙ get-miss o k (map f items) i sorted miss)

    pub no_row : None ≡ with_key k (get m k)
    no_row = ap (with_key k) none_there

    pub isnt_there : false ≡ is_some (get m k)
    isnt_there = ap is_some none_there

    pub past_gap : row_after m (Some k) ≡ slice_get (entries m) i
    past_gap =
        ap (λ t. row_after t (Some k)) (sym s.is) ∙ after-rows o k (map f items) sorted
        ∙ ap (λ r. slice_get (map f items) (place_past r)) miss
        ∙ slice_get-map f items i ∙ entry_is i

    pub rank_gap : i ≡ rank m k
    rank_gap = sym (ap (λ t. rank t k) (sym s.is) ∙ rank-rows o k (map f items) sorted ∙ ap place_before miss)

    pub inserted : (x : A) (v : V) → f x ≡ (k, v) → from_entries {R = R} (map f (holes.insert items i x)) ≡ insert m k v
    inserted x v is =
        ap (from_entries {R = R}) (map-insert f items i x ∙ ap (holes.insert (map f items) i) is)
        ∙ insert-rows o k v (map f items) i sorted miss ∙ ap (λ t. insert t k v) s.is

    pub inserted_order : (x : A) (v : V) → f x ≡ (k, v) → IsTrue (is_sorted R (map f (holes.insert items i x)))
    inserted_order x v is =
        true_of _ (subst (λ l. T (is_sorted R l)) (sym (map-insert f items i x ∙ ap (holes.insert (map f items) i) is)) (insert-sorted o k v (map f items) i sorted miss))

    pub not_taken : m ≡ remove m k
    not_taken = sym (remove-none o m k (sym none_there))

    pub not_edited : (g : V → V) → m ≡ adjust m k g
    not_edited g = sym (ap (λ t. adjust t k g) (sym s.is) ∙ adjust-miss o k g (map f items) i sorted miss ∙ s.is)

  -- ---- all rows
  pub first_is : row_after m None ≡ slice_get (entries m) 0
  first_is = ap (λ t. row_after t None) (sym s.is) ∙ first-rows o (map f items) sorted ∙ slice_get-map f items 0 ∙ entry_is 0

  pub all_edited : (g : V → V) (after : List A) → map f after ≡ changed (λ _. g) (map f items) → from_entries {R = R} (map f after) ≡ map_values (λ _. g) m
  all_edited g after is = ap (from_entries {R = R}) is ∙ changed-rows o g (map f items) sorted ∙ ap (map_values (λ _. g)) s.is

  pub all_order : (g : V → V) (after : List A) → map f after ≡ changed (λ _. g) (map f items) → IsTrue (is_sorted R (map f after))
  all_order g after is = true_of _ (subst (λ l. T (is_sorted R l)) (sym is) (changed-sorted o g (map f items) sorted))

-- the row that is read at a place is changed
pub edits_there : {K V : Type 0} (g : V → V) (items : List (Box (K × V))) (i : ℕ) (d : Box (K × V)) (z : K × V) (w : V) → i < length items → z ≡ (get_or items i d).value → w ≡ g z.1 → EditsAt g i (map row_of items) (map row_of (set items i (with_value (get_or items i d) (z.0, w))))
edits_there g items i d z w small read new =
    let there : slice_get (map row_of items) i ≡ Some z = slice_get-map row_of items i ∙ ap (option_map row_of) (slice_get-get_or items i d small) ∙ ap (λ e. Some e) (sym read) in
    let put : map row_of (set items i (with_value (get_or items i d) (z.0, w))) ≡ set (map row_of items) i (z.0, g z.1) =
    map-set row_of items i (with_value (get_or items i d) (z.0, w)) ∙ ap (λ v. set (map row_of items) i (z.0, v)) new in
    (z, there, put)

-- the box with its row changed
abbrev pub with_edit : {K V : Type 0} → (V → V) → Box (K × V) → Box (K × V)
with_edit g b = with_value b (b.value.0, g b.value.1)

pub edits_all : {K V : Type 0} (g : V → V) (items : List (Box (K × V))) → map row_of (map (with_edit g) items) ≡ changed (λ _. g) (map row_of items)
edits_all g [] = refl
edits_all g (b ∷ items) = ap ((b.value.0, g b.value.1) ∷◌) (edits_all g items)

-- a list with others in its place, as many of them
pub refilled : {A B : Type 0} (h : A → B) (xs ys : List A) (n : ℕ) → n ≡ length ys → length xs ≡ length ys → map h (take n (xs ++ drop (length xs) ys)) ≡ map h xs
refilled h xs ys n many same = ap (map h) (take_at xs (drop (length xs) ys) n (same ∙ sym many))

-- a step of the loop that changes each row, and its end
pub edited_on : {K V : Type 0} (g : V → V) (xs ys : List (Box (K × V))) (i : ℕ) (x : Box (K × V)) (z : K × V) (w : V) → i < length xs → ys ≡ map (with_edit g) (take i xs) ++ drop i xs → x ≡ get_or ys i x → z ≡ (get_or ys i x).value → w ≡ g z.1 → set ys i (with_value (get_or ys i x) (z.0, w)) ≡ map (with_edit g) (take (i + 1) xs) ++ drop (i + 1) xs
edited_on g xs ys i x z w small so_far read is new =
    let same : with_value (get_or ys i x) (z.0, w) ≡ with_edit g x =
    ap (λ v. with_value (get_or ys i x) (z.0, v)) new ∙ ap (λ e. with_value (get_or ys i x) (e.0, g e.1)) is ∙ ap (with_edit g) (sym read) in
    ap (set ys i) same ∙ map_over_more (with_edit g) xs ys i x small so_far read

pub edited_end : {K V : Type 0} (g : V → V) (xs ys : List (Box (K × V))) (i : ℕ) → length xs ≤ i → ys ≡ map (with_edit g) (take i xs) ++ drop i xs → map row_of ys ≡ changed (λ _. g) (map row_of xs)
edited_end g xs ys i all so_far =
    let whole : ys ≡ map (with_edit g) xs =
    so_far ∙ ap (λ l. map (with_edit g) l ++ drop i xs) (take_all i xs all) ∙ ap (map (with_edit g) xs ++◌) (drop_all i xs all) ∙ append-nil _ in
    ap (map row_of) whole ∙ edits_all g xs

-- ---- where keys are known by their texts
keyed : {K V : Type 0} → (K → List ℕ) → K × V → List ℕ × V
keyed text e = (text e.0, e.1)

map-keyed : {K V : Type 0} (text : K → List ℕ) (items : List (Box (K × V))) → map (text_row_of text) items ≡ map (keyed text) (map row_of items)
unfolding keyed
map-keyed text [] = refl
map-keyed text (b ∷ items) = ap ((text b.value.0, b.value.1) ∷◌) (map-keyed text items)

changed-keyed : {K V : Type 0} (text : K → List ℕ) (g : V → V) (es : List (K × V)) → map (keyed text) (changed (λ _. g) es) ≡ changed (λ _. g) (map (keyed text) es)
unfolding keyed
changed-keyed text g [] = refl
changed-keyed text g (e ∷ es) = ap ((text e.0, g e.1) ∷◌) (changed-keyed text g es)

pub text_edits_at : {K V : Type 0} (text : K → List ℕ) (g : V → V) (i : ℕ) (items after : List (Box (K × V))) → EditsAt g i (map row_of items) (map row_of after) → EditsAt g i (map (text_row_of text) items) (map (text_row_of text) after)
unfolding keyed
text_edits_at text g i items after e =
    let there : slice_get (map (text_row_of text) items) i ≡ Some (text e.0.0, e.0.1) =
    ap (λ l. slice_get l i) (map-keyed text items) ∙ slice_get-map (keyed text) (map row_of items) i ∙ ap (option_map (keyed text)) e.1 in
    let put : map (text_row_of text) after ≡ set (map (text_row_of text) items) i (text e.0.0, g e.0.1) =
    map-keyed text after ∙ ap (map (keyed text)) e.2 ∙ map-set (keyed text) (map row_of items) i (e.0.0, g e.0.1)
    ∙ ap (λ l. set l i (text e.0.0, g e.0.1)) (sym (map-keyed text items)) in
    ((text e.0.0, e.0.1), there, put)

pub text_edits_all : {K V : Type 0} (text : K → List ℕ) (g : V → V) (items after : List (Box (K × V))) → map row_of after ≡ changed (λ _. g) (map row_of items) → map (text_row_of text) after ≡ changed (λ _. g) (map (text_row_of text) items)
text_edits_all text g items after e =
    map-keyed text after ∙ ap (map (keyed text)) e ∙ changed-keyed text g (map row_of items) ∙ ap (changed (λ _. g)) (sym (map-keyed text items))
