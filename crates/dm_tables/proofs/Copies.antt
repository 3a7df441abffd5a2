-- A loop that puts entries, one after another, into a table that had none.
use Rattle.std.proofs.Common.{◌≡◌, Bool, true, false, T, List, [], ◌∷◌, Option, None, Some, cond, refl, sym, ap, ◌∙◌, Ordering}
use Rattle.std.specs.Ordering.{eq_by_cmp}
use Rattle.std.specs.FinMap.{FinMap, empty, get, insert, find, is_sorted, entries, entries_sorted, get-entries, get-empty, get-insert}
use Rattle.dm_tables.specs.Rows.{changed, map_values}
use Rattle.dm_tables.proofs.Orders.{KeyOrder, same_of}
use Rattle.dm_tables.proofs.Entries.{first, second, find_below, entries-mapped}
use Rattle.dm_tables.proofs.Rows.{same_rows}

-- the first of two, where it is there
abbrev pub or_there : {X : Type 0} → Option X → Option X → Option X
or_there None r = r
or_there (Some x) r = Some x

or_none : {X : Type 0} (f : Option X) → or_there f None ≡ f
or_none None = refl
or_none (Some x) = refl

later : {X : Type 0} (b : Bool) (f : Option X) (x : X) (r : Option X) → (b ≡ true → f ≡ None) → or_there f (cond b (Some x) r) ≡ or_there (cond b (Some x) f) r
later true f x r h = ap (λ y. or_there y (Some x)) (h refl)
later false f x r h = refl

module _ {K X : Type 0} {R : K → K → Ordering} where
  -- the table with these entries put in, one after another
  abbrev pub poured : List (K × X) → FinMap R X → FinMap R X
  poured [] m = m
  poured (e ∷ es) m = poured es (insert m e.0 e.1)

  -- the step of a loop that puts in what is left
  pub poured_on : (left rest : List (K × X)) (m n : FinMap R X) (k key : K) (v x : X) (whole : FinMap R X) → left ≡ (k, v) ∷ rest → n ≡ insert m key x → key ≡ k → x ≡ v → poured left m ≡ whole → poured rest n ≡ whole
  poured_on left rest m n k key v x whole is put at same so_far =
      ap (poured rest) (put ∙ ap (λ (j : K). insert m j x) at ∙ ap (λ (w : X). insert m k w) same)
      ∙ sym (ap (λ (l : List (K × X)). poured l m) is) ∙ so_far

  -- and its end
  pub poured_end : (left : List (K × X)) (m whole : FinMap R X) → left ≡ [] → poured left m ≡ whole → m ≡ whole
  poured_end left m whole none so_far = sym (ap (λ (l : List (K × X)). poured l m) none) ∙ so_far

module _ {K X : Type 0} {R : K → K → Ordering} (o : KeyOrder R) where
  get-poured : (es : List (K × X)) → T (is_sorted R es) → (m : FinMap R X) (q : K) → get (poured es m) q ≡ or_there (find R q es) (get m q)
  get-poured [] h m q = refl
  get-poured (e ∷ es) h m q =
      get-poured es (second _ _ h) (insert m e.0 e.1) q
      ∙ ap (or_there (find R q es)) (get-insert o.total m e.0 e.1 q)
      ∙ later (eq_by_cmp R q e.0) (find R q es) e.1 (get m q) (λ t. ap (λ y. find R y es) (same_of o q e.0 t) ∙ find_below o e.0 es (first _ _ h))

  -- the entries of a table, put into none
  pub poured-empty : (m : FinMap R X) → poured (entries m) (empty {X = X} {R = R}) ≡ m
  poured-empty m =
      same_rows o _ _ (λ q.
      get-poured (entries m) (entries_sorted m) empty q
      ∙ ap (or_there (find R q (entries m))) (get-empty {X = X} R q)
      ∙ or_none (find R q (entries m))
      ∙ sym (get-entries m q))

  -- where the loop begins
  pub poured_whole : (left : List (K × X)) (none m : FinMap R X) → none ≡ empty → left ≡ entries m → poured left none ≡ m
  poured_whole left none m no_rows is =
      ap (poured left) no_rows ∙ ap (λ (l : List (K × X)). poured l (empty {X = X} {R = R})) is ∙ poured-empty m

module _ {K X : Type 0} {R : K → K → Ordering} (o : KeyOrder R) where
  -- where a loop begins that changes each row
  pub mapped_whole : (f : K → X → X) (left : List (K × X)) (none m : FinMap R X) → none ≡ empty → left ≡ entries m → poured (changed f left) none ≡ map_values f m
  mapped_whole f left none m no_rows is =
      poured_whole o (changed f left) none (map_values f m) no_rows (ap (changed f) is ∙ sym (entries-mapped o f m))

  -- and its step
  pub mapped_on : (f : K → X → X) (left rest : List (K × X)) (m n : FinMap R X) (k : K) (v x : X) (whole : FinMap R X) → left ≡ (k, v) ∷ rest → n ≡ insert m k x → x ≡ f k v → poured (changed f left) m ≡ whole → poured (changed f rest) n ≡ whole
  mapped_on f left rest m n k v x whole is put same so_far =
      poured_on (changed f left) (changed f rest) m n k k (f k v) x whole (ap (changed f) is) put refl same so_far
