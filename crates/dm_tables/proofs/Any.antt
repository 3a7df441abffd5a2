-- A test over all rows of a table.
use Rattle.std.proofs.Common.{◌≡◌, Bool, true, false, cond, ◌||◌, List, [], ◌∷◌, Option, None, Some, is_some, refl, sym, ap, ◌∙◌, Ordering}
use Rattle.std.specs.List.{list_any, AllByRecursion}
use Rattle.std.specs.Cmp.{both_ways}
use Rattle.std.specs.Ordering.{eq_by_cmp}
use Rattle.std.specs.FinMap.{FinMap, get, keys, contains_key-keys, find, entries, get-entries}
use Rattle.dm_tables.specs.Rows.{passes, EachRow, any}
use Rattle.dm_tables.proofs.Orders.{KeyOrder, same_of}
use Rattle.dm_tables.proofs.Entries.{entries-found}

-- some key of a list passes
some_passes : {K : Type 0} (t : K → Bool) (ks : List K) → list_any t ks ≡ true → (k : K) × (t k ≡ true)
some_passes t [] e = cc
some_passes {K = K} t (k ∷ ks) e =
    elim (t k) as (λ b. t k ≡ b → (b || list_any t ks) ≡ true → (q : K) × (t q ≡ true)) [
      | true ↦ λ here _. (k, here)
      | false ↦ λ _ rest. some_passes t ks rest
    ] refl e

either : (a b : Bool) → b ≡ true → (a || b) ≡ true
either true b e = refl
either false b e = e

there : {K X : Type 0} (p : K → X → Bool) (k : K) (r : Option X) → passes p k r ≡ true → (x : X) × (r ≡ Some x) × (p k x ≡ true)
there p k None e = cc
there p k (Some x) e = (x, refl, e)

none_passes : {K X : Type 0} (p : K → X → Bool) (k : K) (r : Option X) → ((x : X) → r ≡ Some x → p k x ≡ false) → passes p k r ≡ false
none_passes p k None each = refl
none_passes p k (Some x) each = each x refl

all_fail : {K : Type 0} (t : K → Bool) (ks : List K) → ((k : K) → t k ≡ false) → list_any t ks ≡ false
all_fail t [] each = refl
all_fail t (k ∷ ks) each = ap (λ b. b || list_any t ks) (each k) ∙ all_fail t ks each

module _ {K X : Type 0} {R : K → K → Ordering} where
  -- some row passes
  pub any-true : (p : K → X → Bool) (m : FinMap R X) → any p m ≡ true → (k : K) × (x : X) × (get m k ≡ Some x) × (p k x ≡ true)
  unfolding any
  any-true p m e =
      let key = some_passes (λ k. passes p k (get m k)) (keys m) e in
      let row = there p key.0 (get m key.0) key.1 in
      (key.0, row.0, row.1, row.2)

  -- none does
  pub any-none : (p : K → X → Bool) (m : FinMap R X) → EachRow m (λ k x. p k x ≡ false) → any p m ≡ false
  unfolding any
  any-none p m each = all_fail (λ k. passes p k (get m k)) (keys m) (λ k. none_passes p k (get m k) (each k))

module _ {K : Type 0} {R : K → K → Ordering} (o : KeyOrder R) where
  passing : (t : K → Bool) (k : K) (ks : List K) → t k ≡ true → list_any (eq_by_cmp R k) ks ≡ true → list_any t ks ≡ true
  passing t k [] here e = cc
  passing t k (q ∷ ks) here e =
      elim (eq_by_cmp R k q) as (λ b. eq_by_cmp R k q ≡ b → (b || list_any (eq_by_cmp R k) ks) ≡ true → (t q || list_any t ks) ≡ true) [
        | true ↦ λ same _. ap (λ b. b || list_any t ks) (ap t (sym (same_of o k q same)) ∙ here)
        | false ↦ λ _ rest. either (t q) _ (passing t k ks here rest)
      ] refl e

module _ {K X : Type 0} {R : K → K → Ordering} (o : KeyOrder R) where
  -- a row that passes
  pub any-some : (p : K → X → Bool) (m : FinMap R X) (k : K) (x : X) → get m k ≡ Some x → p k x ≡ true → any p m ≡ true
  unfolding any
  any-some p m k x e here =
      passing o (λ q. passes p q (get m q)) k (keys m) (ap (passes p k) e ∙ here)
      (sym (contains_key-keys m k) ∙ ap is_some e)

  -- each row fails
  pub any-false : (p : K → X → Bool) (m : FinMap R X) → any p m ≡ false → EachRow m (λ k x. p k x ≡ false)
  any-false p m none = λ k x e.
      elim (p k x) as (λ b. p k x ≡ b → b ≡ false) [
        | true ↦ λ here. let f = any-some p m k x e here in cc
        | false ↦ λ _. refl
      ] refl

  entry_passes : (p : K → X → Bool) (es : List (K × X)) (k : K) (x : X) → find R k es ≡ Some x → p k x ≡ true → list_any (λ e. p e.0 e.1) es ≡ true
  entry_passes p [] k x f here = cc
  entry_passes p (e ∷ es) k x f here =
      elim (eq_by_cmp R k e.0) as (λ b. eq_by_cmp R k e.0 ≡ b → cond b (Some e.1) (find R k es) ≡ Some x → (p e.0 e.1 || list_any (λ e. p e.0 e.1) es) ≡ true) [
        | true ↦ λ t is.
            let v : x ≡ e.1 = cc in
            let q = same_of o k e.0 t in
            ap (λ b. b || list_any (λ e. p e.0 e.1) es) ((λ i. p (sym q i) (sym v i)) ∙ here)
        | false ↦ λ t is. either (p e.0 e.1) _ (entry_passes p es k x is here)
      ] refl f

  found_passes : (p : K → X → Bool) (m : FinMap R X) (es : List (K × X)) → AllByRecursion (λ e. get m e.0 ≡ Some e.1) es → list_any (λ e. p e.0 e.1) es ≡ true → any p m ≡ true
  found_passes p m [] all h = cc
  found_passes p m (e ∷ es) all h =
      elim (p e.0 e.1) as (λ b. p e.0 e.1 ≡ b → (b || list_any (λ e. p e.0 e.1) es) ≡ true → any p m ≡ true) [
        | true ↦ λ here _. any-some p m e.0 e.1 all.0 here
        | false ↦ λ _ rest. found_passes p m es all.1 rest
      ] refl h

  -- for code: a loop over the entries asks each
  pub any-entries : (p : K → X → Bool) (m : FinMap R X) → any p m ≡ list_any (λ e. p e.0 e.1) (entries m)
  any-entries p m =
      both_ways (any p m) (list_any (λ e. p e.0 e.1) (entries m))
      (λ e. let row = any-true p m e in entry_passes p (entries m) row.0 row.1 (sym (get-entries m row.0) ∙ row.2) row.3)
      (λ e. found_passes p m (entries m) (entries-found o m) e)
