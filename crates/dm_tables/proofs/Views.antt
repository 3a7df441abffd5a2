-- The entries of a `BTreeMap`, as a finite map.
use Rattle.std.proofs.Common.{◌≡◌, T, List, [], ◌∷◌, Option, None, Some, Result, Ok, Err, OnErr, OnSome, cond, length, All, refl, ap, sym, subst, ◌∙◌, Ordering, Less, is_lt, true, false, Bool, ◌&&◌, filter, slice_get}
use Rattle.std.specs.Ordering.{eq_by_cmp}
use Rattle.std.specs.Cmp.{eq_by_cmp_equiv}
use Rattle.std.specs.Map.{lookup, keys_of}
use Rattle.std.specs.BTreeMap.{is_at}
use Rattle.std.specs.List.Sorted.{IsStrictlySortedBy}
use Rattle.std.specs.List.{AllByRecursion}
use Rattle.std.proofs.lemmas.List.Elements.{All-same, All-weaker, filter_agree}
use Rattle.std.specs.FinMap.{empty, get, insert, remove, find, is_sorted, entries, from_entries, get-from_entries, get-insert, get-remove, len, len-entries, same_map}
use Rattle.std.specs.FinMap.Entries.{below_all}
use Rattle.std.specs.BTreeMap.Range.{entries_between}
use Rattle.std.specs.declared.ops.Bound.{Bound}
use Rattle.std.specs.declared.ops.Bound.TheVariants.{Excluded, Unbounded}
use Rattle.dm_tables.specs.Rows.{is_past, row_after}
use Rattle.dm_tables.proofs.Orders.{KeyOrder}
use Rattle.dm_tables.proofs.Entries.{both, entries-from_entries}

-- what holds, holds on an error, and where there is a value
pub on_err : {T E P : Type 0} (r : Result T E) → P → OnErr r P
on_err (Ok x) p = tt
on_err (Err e) p = p

pub on_some : {T P : Type 0} (r : Option T) → P → OnSome r P
on_some None p = tt
on_some (Some x) p = p

-- and nothing is said where there is none
pub on_none : {T : Type 0} (P : Type 0) (r : Option T) → r ≡ None → OnSome r P
on_none P None e = tt
on_none P (Some x) e = cc

-- where the rows past a key begin
abbrev pub start_after : {K : Type 0} → Option K → Bound K
start_after None = Unbounded
start_after (Some k) = Excluded k

all_left : (b : Bool) → (b && true) ≡ b
all_left true = refl
all_left false = refl

module _ {K X : Type 0} {R : K → K → Ordering} (o : KeyOrder R) where
  -- what the entries have at a key
  abbrev pub entry_at : List (K × X) → K → Option X
  entry_at es q = lookup (is_at (R q)) es

  found : (es : List (K × X)) (q : K) → find R q es ≡ entry_at es q
  found [] q = refl
  found (e ∷ es) q = ap (cond (is_at (R q) e.0) (Some e.1)) (found es q)

  pub get-view : (es : List (K × X)) (q : K) → get (from_entries {R = R} es) q ≡ entry_at es q
  get-view es q = get-from_entries o.total es q ∙ found es q

  -- entries that differ at one key are a row put there
  pub insert-view : (es fs : List (K × X)) (k : K) (v : X) → ((q : K) → entry_at fs q ≡ cond (is_at (R k) q) (Some v) (entry_at es q)) → from_entries {R = R} fs ≡ insert (from_entries es) k v
  insert-view es fs k v h =
      same_map o.total o.same (from_entries fs) (insert (from_entries es) k v) (λ q.
      get-view fs q ∙ h q ∙ ap (λ b. cond b (Some v) (entry_at es q)) ((eq_by_cmp_equiv o.total).symm k q)
      ∙ sym (get-insert o.total (from_entries es) k v q ∙ ap (cond (eq_by_cmp R q k) (Some v)) (get-view es q)))

  -- or a row taken out
  pub remove-view : (es fs : List (K × X)) (k : K) → ((q : K) → entry_at fs q ≡ cond (is_at (R k) q) None (entry_at es q)) → from_entries {R = R} fs ≡ remove (from_entries es) k
  remove-view es fs k h =
      same_map o.total o.same (from_entries fs) (remove (from_entries es) k) (λ q.
      get-view fs q ∙ h q ∙ ap (λ b. cond b None (entry_at es q)) ((eq_by_cmp_equiv o.total).symm k q)
      ∙ sym (get-remove o.total (from_entries es) k q ∙ ap (cond (eq_by_cmp R q k) None) (get-view es q)))

  below : (k : K) (es : List (K × X)) → AllByRecursion (λ y. R k y ≡ Less) (keys_of es) → T (below_all R k es)
  below k [] h = tt
  below k (e ∷ es) h = both _ _ (subst (λ r. T (is_lt r)) (sym h.0) tt) (below k es h.1)

  sorted : (es : List (K × X)) → IsStrictlySortedBy R (keys_of es) → T (is_sorted R es)
  unfolding IsStrictlySortedBy
  sorted [] h = tt
  sorted (e ∷ es) h = both _ _ (below e.0 es h.0) (sorted es h.1)

  -- the rows are the entries
  pub entries-view : (es : List (K × X)) → IsStrictlySortedBy R (keys_of es) → entries (from_entries {R = R} es) ≡ es
  entries-view es h = entries-from_entries o es (sorted es h)

  -- as many
  pub len-view : (es : List (K × X)) → IsStrictlySortedBy R (keys_of es) → len (from_entries {R = R} es) ≡ length es
  len-view es h = len-entries (from_entries es) ∙ ap length (entries-view es h)

  -- and each is found
  pub found-view : (es : List (K × X)) → IsStrictlySortedBy R (keys_of es) → All (λ e. entry_at es e.0 ≡ Some e.1) es → All (λ e. get (from_entries {R = R} es) e.0 ≡ Some e.1) (entries (from_entries {R = R} es))
  found-view es h found =
      let Found : K × X → Type 0 = λ e. get (from_entries {R = R} es) e.0 ≡ Some e.1 in
      let At : K × X → Type 0 = λ e. entry_at es e.0 ≡ Some e.1 in
      All-same Found _ _ (entries-view es h) (All-weaker At Found (λ e is. get-view es e.0 ∙ is) es found)

  left_after : (es : List (K × X)) (k : Option K) → entries_between R (start_after k) Unbounded es ≡ filter (λ e. is_past R k e.0) es
  left_after es None = refl
  left_after es (Some k) = filter_agree (λ e. is_lt (R k e.0) && true) (λ e. is_lt (R k e.0)) (λ e. all_left (is_lt (R k e.0))) es

  -- the first of the entries in a range
  pub after-view : (es : List (K × X)) → IsStrictlySortedBy R (keys_of es) → (k : Option K) (start : Bound K) → start ≡ start_after k → (left : List (K × X)) → left ≡ entries_between R start Unbounded es → row_after (from_entries {R = R} es) k ≡ slice_get left 0
  unfolding row_after
  after-view es h k start is left e =
      ap (λ xs. slice_get (filter (λ e. is_past R k e.0) xs) 0) (entries-view es h)
      ∙ ap (λ xs. slice_get xs 0) (sym (left_after es k) ∙ ap (λ b. entries_between R b Unbounded es) (sym is) ∙ sym e)

-- no entries are no rows
pub empty-view : {K X : Type 0} {R : K → K → Ordering} (es : List (K × X)) → es ≡ [] → from_entries {R = R} es ≡ empty
empty-view {R = R} es none = ap (λ xs. from_entries {R = R} xs) none
