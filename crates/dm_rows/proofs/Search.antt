-- A search among rows in the order of their keys, and what the rows are after a change at the place that it gives.
use Rattle.std.proofs.Common.{◌≡◌, ℕ, suc, zero, ◌<◌, ◌≤◌, not, T, List, [], ◌∷◌, None, Some, Result, Ok, Err, cond, length, set, get_or, map, refl, sym, ap, subst, ◌∙◌, arith, Ordering, Less, Equal, Greater, is_eq, is_lt, slice_get, filter, option_map, IsTrue}
use Rattle.std.proofs.lemmas.List.{length-map}
use Rattle.std.specs.Ordering.{eq_by_cmp, ordering_reverse, ordering_index}
use Rattle.std.specs.List as holes
use Rattle.std.specs.List.Sorted.{IsBinarySearchResult, IsSearchInRange}
use Rattle.std.specs.FinMap.{find, put, is_sorted}
use Rattle.std.specs.FinMap.Entries.{below_all, by_order, where_key}
use Rattle.dm_rows.specs.Places.{one_on, place_of}
use Rattle.dm_tables.proofs.Orders.{KeyOrder}
use Rattle.dm_tables.proofs.Entries.{first, second, less, find_below, below_less}

-- the place of the first row past it, and how many rows lie before it
abbrev pub place_past : Result ℕ ℕ → ℕ
place_past (Ok i) = suc i
place_past (Err i) = i

abbrev pub place_before : Result ℕ ℕ → ℕ
place_before (Ok i) = i
place_before (Err i) = i

past_on : (r : Result ℕ ℕ) → place_past (one_on r) ≡ suc (place_past r)
past_on (Ok i) = refl
past_on (Err i) = refl

before_on : (r : Result ℕ ℕ) → place_before (one_on r) ≡ suc (place_before r)
before_on (Ok i) = refl
before_on (Err i) = refl

ok_on : (r : Result ℕ ℕ) (i : ℕ) → one_on r ≡ Ok i → (j : ℕ) × (r ≡ Ok j) × (i ≡ suc j)
ok_on (Ok j) i e = (j, refl, cc)
ok_on (Err j) i e = cc

err_on : (r : Result ℕ ℕ) (i : ℕ) → one_on r ≡ Err i → (j : ℕ) × (r ≡ Err j) × (i ≡ suc j)
err_on (Ok j) i e = cc
err_on (Err j) i e = (j, refl, cc)

within_on : (r : Result ℕ ℕ) (n : ℕ) → IsSearchInRange r n → IsSearchInRange (one_on r) (suc n)
within_on (Ok i) n h = omega arith
within_on (Err i) n h = omega arith

module _ {K : Type 0} {R : K → K → Ordering} (o : KeyOrder R) where
  less_of : (x y : K) → R y x ≡ Greater → R x y ≡ Less
  less_of x y e = o.total.antisymm x y ∙ ap ordering_reverse e

  greater_of : (x y : K) → R y x ≡ Less → R x y ≡ Greater
  greater_of x y e = o.total.antisymm x y ∙ ap ordering_reverse e

  equal_of : (x y : K) → R y x ≡ Equal → R x y ≡ Equal
  equal_of x y e = o.total.antisymm x y ∙ ap ordering_reverse e

  -- of two keys in order, the first does not answer more
  low_or : (x y k : K) → R x y ≡ Less → ordering_index (R x k) ≤ ordering_index (R y k)
  low_or x y k p =
      elim (R y k) as (λ r. R y k ≡ r → ordering_index (R x k) ≤ ordering_index r) [
        | Less ↦ λ e. let f = ap ordering_index (o.total.trans x y k p e) in omega arith
        | Equal ↦ λ e. let f = ap ordering_index (ap (R x) (sym (o.same y k e)) ∙ p) in omega arith
        | Greater ↦ λ e. high (R x k)
      ] refl
    where
      high : (r : Ordering) → ordering_index r ≤ 2
      high Less = omega arith
      high Equal = omega arith
      high Greater = omega arith

module _ {K X : Type 0} {R : K → K → Ordering} (o : KeyOrder R) where
  -- an entry past the first of a list in order lies past it
  later : (k : K) (es : List (K × X)) (i : ℕ) (d : K × X) → T (below_all R k es) → i < length es → R k (get_or es i d).0 ≡ Less
  later k [] i d h small = absurd (omega arith)
  later k (e ∷ es) zero d h small = less _ (first _ _ h)
  later k (e ∷ es) (suc i) d h small = later k es i d (second _ _ h) (omega arith)

  -- a hit
  pub place_hit : (k : K) (es : List (K × X)) (i : ℕ) (d : K × X) → T (is_sorted R es) → i < length es → R (get_or es i d).0 k ≡ Equal → place_of R k es ≡ Ok i
  place_hit k [] i d s small e = absurd (omega arith)
  place_hit k (x ∷ es) zero d s small e = ap (λ r. by_order r (Err 0) (Ok 0) (one_on (place_of R k es))) (equal_of o k x.0 e)
  place_hit k (x ∷ es) (suc i) d s small e =
      let past : R x.0 (get_or es i d).0 ≡ Less = later x.0 es i d (first _ _ s) (omega arith) in
      let same : (get_or es i d).0 ≡ k = o.same _ _ e in
      let before : R x.0 k ≡ Less = ap (R x.0) (sym same) ∙ past in
      ap (λ r. by_order r (Err 0) (Ok 0) (one_on (place_of R k es))) (greater_of o k x.0 before)
      ∙ ap one_on (place_hit k es i d (second _ _ s) (omega arith) e)

  -- and a miss
  pub place_miss : (k : K) (es : List (K × X)) (i : ℕ) → i ≤ length es → ((j : ℕ) (d : K × X) → j < i → R (get_or es j d).0 k ≡ Less) → ((j : ℕ) (d : K × X) → i ≤ j → j < length es → R (get_or es j d).0 k ≡ Greater) → place_of R k es ≡ Err i
  place_miss k [] zero small before after = refl
  place_miss k [] (suc i) small before after = absurd (omega arith)
  place_miss k (x ∷ es) zero small before after =
      ap (λ r. by_order r (Err 0) (Ok 0) (one_on (place_of R k es))) (less_of o k x.0 (after 0 x (omega arith) (omega arith)))
  place_miss k (x ∷ es) (suc i) small before after =
      ap (λ r. by_order r (Err 0) (Ok 0) (one_on (place_of R k es))) (greater_of o k x.0 (before 0 x (omega arith)))
      ∙ ap one_on (place_miss k es i (omega arith) (λ j d l. before (suc j) d (omega arith)) (λ j d l m. after (suc j) d (omega arith) (omega arith)))

  -- the answers of a search rise along rows in order
  rises : (k : K) (es : List (K × X)) → T (is_sorted R es) → (i j : ℕ) (d : K × X) → i ≤ j → j < length es → ordering_index (R (get_or es i d).0 k) ≤ ordering_index (R (get_or es j d).0 k)
  rises k [] s i j d l m = absurd (omega arith)
  rises k (x ∷ es) s zero zero d l m = omega arith
  rises k (x ∷ es) s zero (suc j) d l m = low_or o x.0 (get_or es j d).0 k (later x.0 es j d (first _ _ s) (omega arith))
  rises k (x ∷ es) s (suc i) zero d l m = absurd (omega arith)
  rises k (x ∷ es) s (suc i) (suc j) d l m = rises k es (second _ _ s) i j d (omega arith) (omega arith)

  -- ---- what stands at the place
  within : (k : K) (es : List (K × X)) → IsSearchInRange (place_of R k es) (length es)
  within k [] = omega arith
  within k (e ∷ es) =
      elim (R k e.0) as (λ r. IsSearchInRange (by_order r (Err 0) (Ok 0) (one_on (place_of R k es))) (suc (length es))) [
        | Less ↦ omega arith
        | Equal ↦ omega arith
        | Greater ↦ within_on (place_of R k es) (length es) (within k es)
      ]

  pub hit_small : (k : K) (es : List (K × X)) (i : ℕ) → place_of R k es ≡ Ok i → i < length es
  hit_small k es i e = subst (λ r. IsSearchInRange r (length es)) e (within k es)

  pub miss_small : (k : K) (es : List (K × X)) (i : ℕ) → place_of R k es ≡ Err i → i ≤ length es
  miss_small k es i e = subst (λ r. IsSearchInRange r (length es)) e (within k es)

  -- the row that was found has the key
  pub found_key : (k : K) (es : List (K × X)) (i : ℕ) (e : K × X) → place_of R k es ≡ Ok i → slice_get es i ≡ Some e → e.0 ≡ k
  found_key k [] i e h at = cc
  found_key k (x ∷ es) i e h at =
      elim (R k x.0) as (λ r. R k x.0 ≡ r → by_order r (Err 0) (Ok 0) (one_on (place_of R k es)) ≡ Ok i → e.0 ≡ k) [
        | Less ↦ λ p q. cc
        | Equal ↦ λ p q.
            let zero_is : 0 ≡ i = cc in
            let here : Some x ≡ Some e = ap (slice_get (x ∷ es)) zero_is ∙ at in
            let is : x ≡ e = cc in
            ap (λ a. a.0) (sym is) ∙ sym (o.same k x.0 p)
        | Greater ↦ λ p q.
            let on = ok_on (place_of R k es) i q in
            found_key k es on.0 e on.1 (ap (slice_get (x ∷ es)) (sym on.2) ∙ at)
      ] refl h

  -- what is found there
  pub found_row : (k : K) (es : List (K × X)) (i : ℕ) → place_of R k es ≡ Ok i → find R k es ≡ option_map (λ e. e.1) (slice_get es i)
  found_row k [] i h = cc
  found_row k (x ∷ es) i h =
      elim (R k x.0) as (λ r. by_order r (Err 0) (Ok 0) (one_on (place_of R k es)) ≡ Ok i → cond (is_eq r) (Some x.1) (find R k es) ≡ option_map (λ e. e.1) (slice_get (x ∷ es) i)) [
        | Less ↦ λ q. cc
        | Equal ↦ λ q. let zero_is : 0 ≡ i = cc in ap (λ j. option_map (λ e. e.1) (slice_get (x ∷ es) j)) zero_is
        | Greater ↦ λ q.
            let on = ok_on (place_of R k es) i q in
            found_row k es on.0 on.1 ∙ ap (λ j. option_map (λ e. e.1) (slice_get (x ∷ es) j)) (sym on.2)
      ] h

  -- and nothing is found where none stands
  pub found_none : (k : K) (es : List (K × X)) (i : ℕ) → T (is_sorted R es) → place_of R k es ≡ Err i → find R k es ≡ None
  found_none k [] i s h = refl
  found_none k (x ∷ es) i s h =
      elim (R k x.0) as (λ r. R k x.0 ≡ r → by_order r (Err 0) (Ok 0) (one_on (place_of R k es)) ≡ Err i → cond (is_eq r) (Some x.1) (find R k es) ≡ None) [
        | Less ↦ λ p q. find_below o k es (below_less o k x.0 es p (first _ _ s))
        | Equal ↦ λ p q. cc
        | Greater ↦ λ p q. let on = err_on (place_of R k es) i q in found_none k es on.0 (second _ _ s) on.1
      ] refl h

  -- ---- what the rows are after a change at the place
  pub inserted_there : (k : K) (v : X) (es : List (K × X)) (i : ℕ) → place_of R k es ≡ Err i → holes.insert es i (k, v) ≡ put R k v es
  inserted_there k v [] i h = let zero_is : 0 ≡ i = cc in ap (λ j. holes.insert {X = K × X} [] j (k, v)) (sym zero_is)
  inserted_there k v (x ∷ es) i h =
      elim (R k x.0) as (λ r. by_order r (Err 0) (Ok 0) (one_on (place_of R k es)) ≡ Err i → holes.insert (x ∷ es) i (k, v) ≡ by_order r ((k, v) ∷ x ∷ es) ((x.0, v) ∷ es) (x ∷ put R k v es)) [
        | Less ↦ λ q. let zero_is : 0 ≡ i = cc in ap (λ j. holes.insert (x ∷ es) j (k, v)) (sym zero_is)
        | Equal ↦ λ q. cc
        | Greater ↦ λ q.
            let on = err_on (place_of R k es) i q in
            ap (λ j. holes.insert (x ∷ es) j (k, v)) on.2 ∙ ap (x ∷◌) (inserted_there k v es on.0 on.1)
      ] h

  pub replaced_there : (k : K) (v : X) (es : List (K × X)) (i : ℕ) → place_of R k es ≡ Ok i → set es i (k, v) ≡ put R k v es
  replaced_there k v [] i h = cc
  replaced_there k v (x ∷ es) i h =
      elim (R k x.0) as (λ r. R k x.0 ≡ r → by_order r (Err 0) (Ok 0) (one_on (place_of R k es)) ≡ Ok i → set (x ∷ es) i (k, v) ≡ by_order r ((k, v) ∷ x ∷ es) ((x.0, v) ∷ es) (x ∷ put R k v es)) [
        | Less ↦ λ p q. cc
        | Equal ↦ λ p q.
            let zero_is : 0 ≡ i = cc in
            ap (λ j. set (x ∷ es) j (k, v)) (sym zero_is) ∙ ap (λ y. (y, v) ∷ es) (o.same k x.0 p)
        | Greater ↦ λ p q.
            let on = ok_on (place_of R k es) i q in
            ap (λ j. set (x ∷ es) j (k, v)) on.2 ∙ ap (x ∷◌) (replaced_there k v es on.0 on.1)
      ] refl h

  all_stay : (k : K) (es : List (K × X)) → T (below_all R k es) → where_key R (λ y. not (eq_by_cmp R k y)) es ≡ es
  all_stay k [] h = refl
  all_stay k (x ∷ es) h =
      let stays : R k x.0 ≡ Less = less _ (first _ _ h) in
      ap (λ r. cond (not (is_eq r)) (x ∷ where_key R (λ y. not (eq_by_cmp R k y)) es) (where_key R (λ y. not (eq_by_cmp R k y)) es)) stays
      ∙ ap (x ∷◌) (all_stay k es (second _ _ h))

  pub removed_there : (k : K) (es : List (K × X)) (i : ℕ) → T (is_sorted R es) → place_of R k es ≡ Ok i → holes.remove es i ≡ where_key R (λ y. not (eq_by_cmp R k y)) es
  removed_there k [] i s h = cc
  removed_there k (x ∷ es) i s h =
      let left = where_key R (λ y. not (eq_by_cmp R k y)) es in
      elim (R k x.0) as (λ r. R k x.0 ≡ r → by_order r (Err 0) (Ok 0) (one_on (place_of R k es)) ≡ Ok i → holes.remove (x ∷ es) i ≡ cond (not (is_eq r)) (x ∷ left) left) [
        | Less ↦ λ p q. cc
        | Equal ↦ λ p q.
            let zero_is : 0 ≡ i = cc in
            ap (λ j. holes.remove (x ∷ es) j) (sym zero_is)
            ∙ sym (all_stay k es (subst (λ y. T (below_all R y es)) (sym (o.same k x.0 p)) (first _ _ s)))
        | Greater ↦ λ p q.
            let on = ok_on (place_of R k es) i q in
            ap (λ j. holes.remove (x ∷ es) j) on.2 ∙ ap (x ∷◌) (removed_there k es on.0 (second _ _ s) on.1)
      ] refl h

  -- ---- rows past a key, and before it
  first_past : (k : K) (es : List (K × X)) → T (below_all R k es) → slice_get (filter (λ e. is_lt (R k e.0)) es) 0 ≡ slice_get es 0
  first_past k [] h = refl
  first_past k (x ∷ es) h = ap (λ r. slice_get (cond (is_lt r) (x ∷ filter (λ e. is_lt (R k e.0)) es) (filter (λ e. is_lt (R k e.0)) es)) 0) (less _ (first _ _ h))

  pub past_there : (k : K) (es : List (K × X)) → T (is_sorted R es) → slice_get (filter (λ e. is_lt (R k e.0)) es) 0 ≡ slice_get es (place_past (place_of R k es))
  past_there k [] s = refl
  past_there k (x ∷ es) s =
      let left = filter (λ e. is_lt (R k e.0)) es in
      elim (R k x.0) as (λ r. R k x.0 ≡ r → slice_get (cond (is_lt r) (x ∷ left) left) 0 ≡ slice_get (x ∷ es) (place_past (by_order r (Err 0) (Ok 0) (one_on (place_of R k es))))) [
        | Less ↦ λ p. refl
        | Equal ↦ λ p. first_past k es (subst (λ y. T (below_all R y es)) (sym (o.same k x.0 p)) (first _ _ s))
        | Greater ↦ λ p. past_there k es (second _ _ s) ∙ ap (slice_get (x ∷ es)) (sym (past_on (place_of R k es)))
      ] refl

  none_before : (k : K) (es : List (K × X)) → T (below_all R k es) → length (filter (λ e. is_lt (R e.0 k)) es) ≡ 0
  none_before k [] h = refl
  none_before k (x ∷ es) h =
      let left = filter (λ e. is_lt (R e.0 k)) es in
      ap (λ r. length (cond (is_lt r) (x ∷ left) left)) (greater_of o x.0 k (less _ (first _ _ h))) ∙ none_before k es (second _ _ h)

  pub before_there : (k : K) (es : List (K × X)) → T (is_sorted R es) → length (filter (λ e. is_lt (R e.0 k)) es) ≡ place_before (place_of R k es)
  before_there k [] s = refl
  before_there k (x ∷ es) s =
      let left = filter (λ e. is_lt (R e.0 k)) es in
      elim (R k x.0) as (λ r. R k x.0 ≡ r → length (cond (is_lt (R x.0 k)) (x ∷ left) left) ≡ place_before (by_order r (Err 0) (Ok 0) (one_on (place_of R k es)))) [
        | Less ↦ λ p.
            ap (λ r. length (cond (is_lt r) (x ∷ left) left)) (greater_of o x.0 k p)
            ∙ none_before k es (below_less o k x.0 es p (first _ _ s))
        | Equal ↦ λ p.
            ap (λ r. length (cond (is_lt r) (x ∷ left) left)) (equal_of o x.0 k p)
            ∙ none_before k es (subst (λ y. T (below_all R y es)) (sym (o.same k x.0 p)) (first _ _ s))
        | Greater ↦ λ p.
            ap (λ r. length (cond (is_lt r) (x ∷ left) left)) (less_of o x.0 k p)
            ∙ ap suc (before_there k es (second _ _ s)) ∙ sym (before_on (place_of R k es))
      ] refl

get_or-map : {A B : Type 0} (f : A → B) (xs : List A) (i : ℕ) (d : A) (e : B) → i < length xs → get_or (map f xs) i e ≡ f (get_or xs i d)
get_or-map f [] i d e small = absurd (omega arith)
get_or-map f (x ∷ xs) zero d e small = refl
get_or-map f (x ∷ xs) (suc i) d e small = get_or-map f xs i d e (omega arith)

-- what a binary search among boxes answers
module _ {A K X : Type 0} {R : K → K → Ordering} (o : KeyOrder R) (f : A → K × X) (k : K) where
  answer_on : (x : A) (rest : List A) → T (is_sorted R (map f (x ∷ rest))) → (r : Result ℕ ℕ) → IsSearchInRange r (length (x ∷ rest)) → IsBinarySearchResult (λ (a : A). R (f a).0 k) (x ∷ rest) r → r ≡ place_of R k (map f (x ∷ rest))
  answer_on x rest s (Ok i) small is =
      let xs = x ∷ rest in
      let long : length (map f xs) ≡ length xs = length-map xs f in
      sym (place_hit o k (map f xs) i (f x) s (omega arith) (ap (λ e. R e.0 k) (get_or-map f xs i x (f x) small) ∙ is x))
  answer_on x rest s (Err i) small is =
      let xs = x ∷ rest in
      let long : length (map f xs) ≡ length xs = length-map xs f in
      let point = is (λ a b d l m.
      subst (λ e. ordering_index (R e.0 k) ≤ ordering_index (R (f (get_or xs b d)).0 k)) (get_or-map f xs a d (f x) (omega arith))
      (subst (λ e. ordering_index (R (get_or (map f xs) a (f x)).0 k) ≤ ordering_index (R e.0 k)) (get_or-map f xs b d (f x) m) (rises o k (map f xs) s a b (f x) l (omega arith)))) in
      sym (place_miss o k (map f xs) i (omega arith)
      (λ j d l. ap (λ e. R e.0 k) (get_or-map f xs j x d (omega arith)) ∙ point.0 j x (omega arith) l)
      (λ j d l m. ap (λ e. R e.0 k) (get_or-map f xs j x d (omega arith)) ∙ point.1 j x l (omega arith)))

  pub search_answer : (xs : List A) → IsTrue (is_sorted R (map f xs)) → (r : Result ℕ ℕ) → IsSearchInRange r (length xs) → IsBinarySearchResult (λ (a : A). R (f a).0 k) xs r → r ≡ place_of R k (map f xs)
  search_answer [] s (Ok i) small is = absurd (omega arith)
  search_answer [] s (Err i) small is = let none : i ≡ 0 = omega arith in ap (λ j. Err j) none
  search_answer (x ∷ rest) s r small is = answer_on x rest (subst T (sym s) tt) r small is
