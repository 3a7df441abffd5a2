-- The first row past a key: a loop that changes the table on its way goes from each to the next.
use Rattle.std.proofs.Common.{◌≡◌, Bool, true, false, T, List, [], ◌∷◌, Option, None, Some, cond, filter, slice_get, refl, sym, ap, subst, ◌∙◌, Ordering, Less, is_lt}
use Rattle.std.specs.Ordering.{eq_by_cmp, ordering_reverse}
use Rattle.std.specs.Cmp.{tied_itself}
use Rattle.std.specs.List.{AllByRecursion}
use Rattle.std.specs.FinMap.{FinMap, get, find, is_sorted, entries, entries_sorted, get-entries}
use Rattle.std.specs.FinMap.Entries.{below_all}
use Rattle.dm_tables.specs.Rows.{EachRow, is_past, row_after}
use Rattle.dm_tables.proofs.Orders.{KeyOrder, same_of}
use Rattle.dm_tables.proofs.Entries.{first, second, less, entries-found}

-- a row that lies past k, and before no other that does
pub record IsNext {K X : Type 0} {R : K → K → Ordering} (m : FinMap R X) (k : Option K) (q : K) (x : X) : Type 0 where
  pub there : get m q ≡ Some x
  pub past : is_past R k q ≡ true
  pub next : (p : K) (y : X) → get m p ≡ Some y → is_past R k p ≡ true → is_lt (R p q) ≡ false

first_passes : {A : Type 0} (t : A → Bool) (es : List A) (e : A) → slice_get (filter t es) 0 ≡ Some e → t e ≡ true
first_passes t [] e h = cc
first_passes t (x ∷ es) e h =
    elim (t x) as (λ b. t x ≡ b → slice_get (cond b (x ∷ filter t es) (filter t es)) 0 ≡ Some e → t e ≡ true) [
      | true ↦ λ here is. let same : x ≡ e = cc in ap t (sym same) ∙ here
      | false ↦ λ _ is. first_passes t es e is
    ] refl h

first_all : {A : Type 0} (P : A → Type 0) (t : A → Bool) (es : List A) (e : A) → AllByRecursion P es → slice_get (filter t es) 0 ≡ Some e → P e
first_all P t [] e all h = cc
first_all P t (x ∷ es) e all h =
    elim (t x) as (λ b. slice_get (cond b (x ∷ filter t es) (filter t es)) 0 ≡ Some e → P e) [
      | true ↦ λ is. let same : x ≡ e = cc in subst P same all.0
      | false ↦ λ is. first_all P t es e all.1 is
    ] h

module _ {K X : Type 0} {R : K → K → Ordering} (o : KeyOrder R) where
  -- a key below each of a list is below each that is found there
  below_found : (k : K) (es : List (K × X)) → T (below_all R k es) → (p : K) (y : X) → find R p es ≡ Some y → R k p ≡ Less
  below_found k [] h p y f = cc
  below_found k (e ∷ es) h p y f =
      elim (eq_by_cmp R p e.0) as (λ b. eq_by_cmp R p e.0 ≡ b → cond b (Some e.1) (find R p es) ≡ Some y → R k p ≡ Less) [
        | true ↦ λ t _. ap (R k) (same_of o p e.0 t) ∙ less _ (first _ _ h)
        | false ↦ λ _ is. below_found k es (second _ _ h) p y is
      ] refl f

  -- p is the first of a list, or found in the rest
  not_before : (e : K × X) (es : List (K × X)) → T (below_all R e.0 es) → (p : K) (y : X) → find R p (e ∷ es) ≡ Some y → is_lt (R p e.0) ≡ false
  not_before e es h p y f =
      elim (eq_by_cmp R p e.0) as (λ b. eq_by_cmp R p e.0 ≡ b → cond b (Some e.1) (find R p es) ≡ Some y → is_lt (R p e.0) ≡ false) [
        | true ↦ λ t _. ap is_lt (ap (λ q. R q e.0) (same_of o p e.0 t) ∙ tied_itself o.total e.0)
        | false ↦ λ _ is. ap is_lt (o.total.antisymm p e.0 ∙ ap ordering_reverse (below_found e.0 es h p y is))
      ] refl f

  first_least : (t : K → Bool) (es : List (K × X)) → T (is_sorted R es) → (e : K × X) → slice_get (filter (λ e. t e.0) es) 0 ≡ Some e → (p : K) (y : X) → find R p es ≡ Some y → t p ≡ true → is_lt (R p e.0) ≡ false
  first_least t [] s e h p y f here = cc
  first_least t (x ∷ es) s e h p y f here =
      elim (t x.0) as (λ b. t x.0 ≡ b → slice_get (cond b (x ∷ filter (λ e. t e.0) es) (filter (λ e. t e.0) es)) 0 ≡ Some e → is_lt (R p e.0) ≡ false) [
        | true ↦ λ _ is. let same : x ≡ e = cc in ap (λ a. is_lt (R p a.0)) (sym same) ∙ not_before x es (first _ _ s) p y f
        | false ↦ λ not is.
            elim (eq_by_cmp R p x.0) as (λ b. eq_by_cmp R p x.0 ≡ b → cond b (Some x.1) (find R p es) ≡ Some y → is_lt (R p e.0) ≡ false) [
              | true ↦ λ tie _. let g = ap t (same_of o p x.0 tie) in cc
              | false ↦ λ _ found. first_least t es (second _ _ s) e is p y found here
            ] refl f
      ] refl h

  none_first : (t : K → Bool) (es : List (K × X)) → slice_get (filter (λ e. t e.0) es) 0 ≡ None → (p : K) (y : X) → find R p es ≡ Some y → t p ≡ false
  none_first t [] h p y f = cc
  none_first t (x ∷ es) h p y f =
      elim (t x.0) as (λ b. t x.0 ≡ b → slice_get (cond b (x ∷ filter (λ e. t e.0) es) (filter (λ e. t e.0) es)) 0 ≡ None → t p ≡ false) [
        | true ↦ λ _ is. cc
        | false ↦ λ not is.
            elim (eq_by_cmp R p x.0) as (λ b. eq_by_cmp R p x.0 ≡ b → cond b (Some x.1) (find R p es) ≡ Some y → t p ≡ false) [
              | true ↦ λ tie _. ap t (same_of o p x.0 tie) ∙ not
              | false ↦ λ _ found. none_first t es is p y found
            ] refl f
      ] refl h

  pub after-some : (m : FinMap R X) (k : Option K) (q : K) (x : X) → row_after m k ≡ Some (q, x) → IsNext m k q x
  unfolding row_after
  after-some m k q x e = record {
    there = first_all (λ e. get m e.0 ≡ Some e.1) (λ e. is_past R k e.0) (entries m) (q, x) (entries-found o m) e;
    past = first_passes (λ e. is_past R k e.0) (entries m) (q, x) e;
    next = λ p y at here. first_least (is_past R k) (entries m) (entries_sorted m) (q, x) e p y (sym (get-entries m p) ∙ at) here;
  }

  -- where none is found, none is left
  pub after-none : (m : FinMap R X) (k : Option K) → row_after m k ≡ None → EachRow m (λ q _. is_past R k q ≡ false)
  unfolding row_after
  after-none m k e = λ q x at. none_first (is_past R k) (entries m) e q x (sym (get-entries m q) ∙ at)
