-- The rows of a table as the list of its entries, in which a loop goes over them.
use Rattle.std.proofs.Common.{◌≡◌, Bool, true, false, ◌&&◌, T, List, [], ◌∷◌, None, Some, cond, length, refl, sym, ap, subst, ◌∙◌, arith, Ordering, Less, Equal, Greater, is_eq, is_lt}
use Rattle.std.specs.Ordering.{eq_by_cmp}
use Rattle.std.specs.Cmp.{tied_itself}
use Rattle.std.specs.List.{AllByRecursion}
use Rattle.std.specs.FinMap.{FinMap, empty, get, find, is_sorted, entries, entries_sorted, get-entries, len-entries, len-empty, from_entries, get-from_entries}
use Rattle.std.specs.FinMap.Entries.{below_all, same_entries}
use Rattle.dm_tables.specs.Rows.{EachRow, changed, map_values}
use Rattle.dm_tables.proofs.Orders.{KeyOrder, same_of}

pub first : (a b : Bool) → T (a && b) → T a
first true b p = tt
first false b p = p

pub second : (a b : Bool) → T (a && b) → T b
second true b p = p
second false b p = absurd p

pub both : (a b : Bool) → T a → T b → T (a && b)
both true b p q = q
both false b p q = p

pub less : (r : Ordering) → T (is_lt r) → r ≡ Less
less Less p = refl
less Equal p = absurd p
less Greater p = absurd p

none : {A : Type 0} (es : List A) → length es ≡ 0 → es ≡ []
none [] e = refl
none (e ∷ es) h = absurd (omega arith)

pub entries-empty : {K X : Type 0} (R : K → K → Ordering) → entries (empty {X = X} {R = R}) ≡ []
entries-empty {X = X} R = none _ (sym (len-entries (empty {X = X} {R = R})) ∙ len-empty R X)

module _ {K X : Type 0} {R : K → K → Ordering} (o : KeyOrder R) where
  -- a key below each of a list is not found in it
  pub find_below : (q : K) (es : List (K × X)) → T (below_all R q es) → find R q es ≡ None
  find_below q [] h = refl
  find_below q (e ∷ es) h = ap (λ r. cond (is_eq r) (Some e.1) (find R q es)) (less _ (first _ _ h)) ∙ find_below q es (second _ _ h)

  pub below_less : (x y : K) (es : List (K × X)) → R x y ≡ Less → T (below_all R y es) → T (below_all R x es)
  below_less x y [] p h = tt
  below_less x y (e ∷ es) p h =
      both _ _ (subst (λ r. T (is_lt r)) (sym (o.total.trans x y e.0 p (less _ (first _ _ h)))) tt) (below_less x y es p (second _ _ h))

  find_first : (e : K × X) (es : List (K × X)) → find R e.0 (e ∷ es) ≡ Some e.1
  find_first e es = ap (λ r. cond (is_eq r) (Some e.1) (find R e.0 es)) (tied_itself o.total e.0)

  -- what is found in the rest is found
  find_rest : (e : K × X) (es : List (K × X)) → T (below_all R e.0 es) → (k : K) (x : X) → find R k es ≡ Some x → find R k (e ∷ es) ≡ Some x
  find_rest e es h k x f =
      elim (eq_by_cmp R k e.0) as (λ b. eq_by_cmp R k e.0 ≡ b → cond b (Some e.1) (find R k es) ≡ Some x) [
        | true ↦ λ t. let same = ap (λ q. find R q es) (same_of o k e.0 t) in let gone = find_below e.0 es h in cc
        | false ↦ λ t. f
      ] refl

  each_of : (P : K → X → Type 0) (es : List (K × X)) → T (is_sorted R es) → ((k : K) (x : X) → find R k es ≡ Some x → P k x) → AllByRecursion (λ e. P e.0 e.1) es
  each_of P [] h each = tt
  each_of P (e ∷ es) h each =
      (each e.0 e.1 (find_first e es), each_of P es (second _ _ h) (λ k x f. each k x (find_rest e es (first _ _ h) k x f)))

  of_each : (P : K → X → Type 0) (es : List (K × X)) → AllByRecursion (λ e. P e.0 e.1) es → (k : K) (x : X) → find R k es ≡ Some x → P k x
  of_each P [] all k x f = cc
  of_each P (e ∷ es) all k x f =
      elim (eq_by_cmp R k e.0) as (λ b. eq_by_cmp R k e.0 ≡ b → cond b (Some e.1) (find R k es) ≡ Some x → P k x) [
        | true ↦ λ t is. let v : e.1 ≡ x = cc in subst (P k) v (subst (λ q. P q e.1) (sym (same_of o k e.0 t)) all.0)
        | false ↦ λ t is. of_each P es all.1 k x is
      ] refl f

  -- what holds of each row holds of each entry, and the other way round
  pub entries-each : (P : K → X → Type 0) (m : FinMap R X) → EachRow m P → AllByRecursion (λ e. P e.0 e.1) (entries m)
  entries-each P m each = each_of P (entries m) (entries_sorted m) (λ k x f. each k x (get-entries m k ∙ f))

  pub each-entries : (P : K → X → Type 0) (m : FinMap R X) → AllByRecursion (λ e. P e.0 e.1) (entries m) → EachRow m P
  each-entries P m all = λ k x e. of_each P (entries m) all k x (sym (get-entries m k) ∙ e)

  -- each entry is a row
  pub entries-found : (m : FinMap R X) → AllByRecursion (λ e. get m e.0 ≡ Some e.1) (entries m)
  entries-found m = entries-each (λ k x. get m k ≡ Some x) m (λ k x e. e)

  -- the table of entries in order has these entries
  pub entries-from_entries : (es : List (K × X)) → T (is_sorted R es) → entries (from_entries {R = R} es) ≡ es
  entries-from_entries es h =
      let m = from_entries {R = R} es in
      same_entries R o.total o.same (entries m) es (entries_sorted m) h (λ q. sym (get-entries m q) ∙ get-from_entries o.total es q)

module _ {K X Y : Type 0} {R : K → K → Ordering} (o : KeyOrder R) where
  changed_below : (k : K) (f : K → X → Y) (es : List (K × X)) → T (below_all R k es) → T (below_all R k (changed f es))
  changed_below k f [] h = tt
  changed_below k f (e ∷ es) h = both _ _ (first _ _ h) (changed_below k f es (second _ _ h))

  pub changed_sorted : (f : K → X → Y) (es : List (K × X)) → T (is_sorted R es) → T (is_sorted R (changed f es))
  changed_sorted f [] h = tt
  changed_sorted f (e ∷ es) h = both _ _ (changed_below e.0 f es (first _ _ h)) (changed_sorted f es (second _ _ h))

  -- the entries of a table of which each row is changed
  pub entries-mapped : (f : K → X → Y) (m : FinMap R X) → entries (map_values f m) ≡ changed f (entries m)
  unfolding map_values
  entries-mapped f m = entries-from_entries o (changed f (entries m)) (changed_sorted f (entries m) (entries_sorted m))
