-- The list of a table's rows, in the order of their keys, as a finite map: look-ups and changes at the place that a search gives.
use Rattle.std.proofs.Common.{◌≡◌, ℕ, Bool, true, false, not, T, List, [], ◌∷◌, None, Some, Ok, Err, cond, length, set, refl, sym, ap, subst, ◌∙◌, Ordering, is_lt, is_eq, slice_get, filter, option_map}
use Rattle.std.specs.Ordering.{eq_by_cmp}
use Rattle.std.specs.Cmp.{eq_by_cmp_equiv, alike_right}
use Rattle.std.specs.List as holes
use Rattle.std.specs.FinMap.{get, insert, remove, find, put, is_sorted, entries, from_entries, get-from_entries, entries-insert, same_entries_map, get-remove, len, len-entries}
use Rattle.std.specs.FinMap.Entries.{is_sorted-put, is_sorted-where_key, find-where_key}
use Rattle.dm_tables.specs.Rows.{adjust, map_values, changed, row_after}
use Rattle.dm_tables.proofs.Orders.{KeyOrder}
use Rattle.dm_tables.proofs.Rows.{same_rows}
use Rattle.dm_tables.proofs.Entries.{entries-from_entries, changed_sorted}
use Rattle.dm_tables.proofs.Adjusted.{adjust-there, adjust-none}
use Rattle.dm_rows.specs.Rows.{rank}
use Rattle.dm_rows.specs.Places.{place_of}
use Rattle.dm_rows.proofs.Search.{place_past, place_before, found_row, found_key, found_none, inserted_there, replaced_there, removed_there, past_there, before_there}

turned : {A : Type 0} (b : Bool) (x y : A) → cond (not b) x y ≡ cond b y x
turned true x y = refl
turned false x y = refl

-- every key lies past none
all_past : {A : Type 0} (es : List A) → filter (λ _. true) es ≡ es
all_past [] = refl
all_past (x ∷ es) = ap (x ∷◌) (all_past es)

module _ {K X : Type 0} {R : K → K → Ordering} (o : KeyOrder R) where
  pub rows_are : (es : List (K × X)) → T (is_sorted R es) → entries (from_entries {R = R} es) ≡ es
  rows_are es s = entries-from_entries o es s

  pub len-rows : (es : List (K × X)) → T (is_sorted R es) → len (from_entries {R = R} es) ≡ length es
  len-rows es s = len-entries (from_entries es) ∙ ap length (rows_are es s)

  -- ---- look-ups
  pub get-hit : (k : K) (es : List (K × X)) (i : ℕ) → place_of R k es ≡ Ok i → get (from_entries {R = R} es) k ≡ option_map (λ e. e.1) (slice_get es i)
  get-hit k es i h = get-from_entries o.total es k ∙ found_row o k es i h

  pub get-miss : (k : K) (es : List (K × X)) (i : ℕ) → T (is_sorted R es) → place_of R k es ≡ Err i → get (from_entries {R = R} es) k ≡ None
  get-miss k es i s h = get-from_entries o.total es k ∙ found_none o k es i s h

  pub entry-rows : (es : List (K × X)) (i : ℕ) → T (is_sorted R es) → slice_get (entries (from_entries {R = R} es)) i ≡ slice_get es i
  entry-rows es i s = ap (λ l. slice_get l i) (rows_are es s)

  pub after-rows : (k : K) (es : List (K × X)) → T (is_sorted R es) → row_after (from_entries {R = R} es) (Some k) ≡ slice_get es (place_past (place_of R k es))
  unfolding row_after
  after-rows k es s = ap (λ l. slice_get (filter (λ e. is_lt (R k e.0)) l) 0) (rows_are es s) ∙ past_there o k es s

  pub first-rows : (es : List (K × X)) → T (is_sorted R es) → row_after (from_entries {R = R} es) None ≡ slice_get es 0
  unfolding row_after
  first-rows es s = ap (λ l. slice_get (filter (λ _. true) l) 0) (rows_are es s) ∙ ap (λ l. slice_get l 0) (all_past es)

  pub rank-rows : (k : K) (es : List (K × X)) → T (is_sorted R es) → rank (from_entries {R = R} es) k ≡ place_before (place_of R k es)
  unfolding rank
  rank-rows k es s = ap (λ l. length (filter (λ e. is_lt (R e.0 k)) l)) (rows_are es s) ∙ before_there o k es s

  -- ---- changes
  put_rows : (k : K) (v : X) (es fs : List (K × X)) → T (is_sorted R es) → fs ≡ put R k v es → from_entries {R = R} fs ≡ insert (from_entries es) k v
  put_rows k v es fs s is =
      let new : T (is_sorted R (put R k v es)) = is_sorted-put R o.total k v es s in
      same_entries_map _ _ (
      rows_are fs (subst (λ l. T (is_sorted R l)) (sym is) new) ∙ is
      ∙ sym (entries-insert o.total (from_entries es) k v ∙ ap (put R k v) (rows_are es s)))

  pub insert-rows : (k : K) (v : X) (es : List (K × X)) (i : ℕ) → T (is_sorted R es) → place_of R k es ≡ Err i → from_entries {R = R} (holes.insert es i (k, v)) ≡ insert (from_entries es) k v
  insert-rows k v es i s h = put_rows k v es _ s (inserted_there o k v es i h)

  pub insert-sorted : (k : K) (v : X) (es : List (K × X)) (i : ℕ) → T (is_sorted R es) → place_of R k es ≡ Err i → T (is_sorted R (holes.insert es i (k, v)))
  insert-sorted k v es i s h = subst (λ l. T (is_sorted R l)) (sym (inserted_there o k v es i h)) (is_sorted-put R o.total k v es s)

  pub replace-rows : (k : K) (v : X) (es : List (K × X)) (i : ℕ) → T (is_sorted R es) → place_of R k es ≡ Ok i → from_entries {R = R} (set es i (k, v)) ≡ insert (from_entries es) k v
  replace-rows k v es i s h = put_rows k v es _ s (replaced_there o k v es i h)

  pub replace-sorted : (k : K) (v : X) (es : List (K × X)) (i : ℕ) → T (is_sorted R es) → place_of R k es ≡ Ok i → T (is_sorted R (set es i (k, v)))
  replace-sorted k v es i s h = subst (λ l. T (is_sorted R l)) (sym (replaced_there o k v es i h)) (is_sorted-put R o.total k v es s)

  -- where the row that stands there is changed
  same_key : (k : K) (es : List (K × X)) (i : ℕ) (e : K × X) (v : X) → place_of R k es ≡ Ok i → slice_get es i ≡ Some e → set es i (e.0, v) ≡ set es i (k, v)
  same_key k es i e v h at = ap (λ q. set es i (q, v)) (found_key o k es i e h at)

  pub adjust-rows : (k : K) (f : X → X) (es : List (K × X)) (i : ℕ) (e : K × X) → T (is_sorted R es) → place_of R k es ≡ Ok i → slice_get es i ≡ Some e → from_entries {R = R} (set es i (e.0, f e.1)) ≡ adjust (from_entries es) k f
  adjust-rows k f es i e s h at =
      ap (from_entries {R = R}) (same_key k es i e (f e.1) h at)
      ∙ replace-rows k (f e.1) es i s h
      ∙ sym (adjust-there (from_entries es) k f e.1 (get-hit k es i h ∙ ap (option_map (λ a. a.1)) at))

  pub adjust-sorted : (k : K) (v : X) (es : List (K × X)) (i : ℕ) (e : K × X) → T (is_sorted R es) → place_of R k es ≡ Ok i → slice_get es i ≡ Some e → T (is_sorted R (set es i (e.0, v)))
  adjust-sorted k v es i e s h at = subst (λ l. T (is_sorted R l)) (sym (same_key k es i e v h at)) (replace-sorted k v es i s h)

  pub adjust-miss : (k : K) (f : X → X) (es : List (K × X)) (i : ℕ) → T (is_sorted R es) → place_of R k es ≡ Err i → adjust (from_entries {R = R} es) k f ≡ from_entries es
  adjust-miss k f es i s h = adjust-none (from_entries es) k f (get-miss k es i s h)

  pub remove-rows : (k : K) (es : List (K × X)) (i : ℕ) → T (is_sorted R es) → place_of R k es ≡ Ok i → from_entries {R = R} (holes.remove es i) ≡ remove (from_entries es) k
  remove-rows k es i s h =
      same_rows o _ _ (λ q.
      get-from_entries o.total (holes.remove es i) q
      ∙ ap (find R q) (removed_there o k es i s h)
      ∙ find-where_key R (λ y. not (eq_by_cmp R k y)) q (λ y t. ap (λ r. not (is_eq r)) (sym (alike_right o.total q y k t))) es
      ∙ turned (eq_by_cmp R k q) _ _
      ∙ ap (λ b. cond b None (find R q es)) ((eq_by_cmp_equiv o.total).symm k q)
      ∙ sym (get-remove o.total (from_entries es) k q ∙ ap (cond (eq_by_cmp R q k) None) (get-from_entries o.total es q)))

  pub remove-sorted : (k : K) (es : List (K × X)) (i : ℕ) → T (is_sorted R es) → place_of R k es ≡ Ok i → T (is_sorted R (holes.remove es i))
  remove-sorted k es i s h = subst (λ l. T (is_sorted R l)) (sym (removed_there o k es i s h)) (is_sorted-where_key R _ es s)

  -- each row changed
  pub changed-rows : (f : X → X) (es : List (K × X)) → T (is_sorted R es) → from_entries {R = R} (changed (λ _. f) es) ≡ map_values (λ _. f) (from_entries es)
  unfolding map_values
  changed-rows f es s = ap (λ l. from_entries {R = R} (changed (λ _. f) l)) (sym (rows_are es s))

  pub changed-sorted : (f : X → X) (es : List (K × X)) → T (is_sorted R es) → T (is_sorted R (changed (λ _. f) es))
  changed-sorted f es s = changed_sorted o (λ _. f) es s
