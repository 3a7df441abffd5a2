-- Tables of which a row, or each, is changed by a function.
use Rattle.std.proofs.Common.{◌≡◌, ◌≢◌, ◌⊎◌, true, false, cond, List, [], ◌∷◌, Option, None, Some, option_map, refl, sym, ap, subst, ◌∙◌, inl, inr, Ordering}
use Rattle.std.specs.Ordering.{eq_by_cmp}
use Rattle.std.specs.FinMap.{FinMap, get, insert, find, entries, get-entries, get-from_entries}
use Rattle.dm_tables.specs.Rows.{changed, EachRow, put_changed, adjust, map_values}
use Rattle.dm_tables.proofs.Orders.{KeyOrder, same_or, same_of}
use Rattle.dm_tables.proofs.Rows.{get-here, get-beside, each-insert}

was_mapped : {X Y : Type 0} (f : X → Y) (y : Y) (r : Option X) → option_map f r ≡ Some y → (x : X) × (r ≡ Some x) × (y ≡ f x)
was_mapped f y None e = cc
was_mapped f y (Some x) e = (x, refl, cc)

module _ {K X : Type 0} {R : K → K → Ordering} where
  -- for code: what stands for the change
  pub adjust-there : (m : FinMap R X) (k : K) (f : X → X) (x : X) → get m k ≡ Some x → adjust m k f ≡ insert m k (f x)
  unfolding adjust
  adjust-there m k f x e = ap (put_changed m k f) e

  pub adjust-none : (m : FinMap R X) (k : K) (f : X → X) → get m k ≡ None → adjust m k f ≡ m
  unfolding adjust
  adjust-none m k f e = ap (put_changed m k f) e

module _ {K X : Type 0} {R : K → K → Ordering} (o : KeyOrder R) where
  -- look-ups
  pub adjusted_row : (m : FinMap R X) (k : K) (f : X → X) (x : X) → get m k ≡ Some x → get (adjust m k f) k ≡ Some (f x)
  adjusted_row m k f x e = ap (λ n. get n k) (adjust-there m k f x e) ∙ get-here o m k (f x)

  adjusted_at : (m : FinMap R X) (k : K) (f : X → X) (r : Option X) → get m k ≡ r → get (adjust m k f) k ≡ option_map f r
  adjusted_at m k f None e = ap (λ n. get n k) (adjust-none m k f e) ∙ e
  adjusted_at m k f (Some x) e = adjusted_row m k f x e

  pub adjusted-here : (m : FinMap R X) (k : K) (f : X → X) → get (adjust m k f) k ≡ option_map f (get m k)
  adjusted-here m k f = adjusted_at m k f (get m k) refl

  beside_at : (m : FinMap R X) (k : K) (f : X → X) (q : K) → q ≢ k → (r : Option X) → get m k ≡ r → get (adjust m k f) q ≡ get m q
  beside_at m k f q differ None e = ap (λ n. get n q) (adjust-none m k f e)
  beside_at m k f q differ (Some x) e = ap (λ n. get n q) (adjust-there m k f x e) ∙ get-beside o m k (f x) q differ

  pub adjusted-beside : (m : FinMap R X) (k : K) (f : X → X) (q : K) → q ≢ k → get (adjust m k f) q ≡ get m q
  adjusted-beside m k f q differ = beside_at m k f q differ (get m k) refl

  -- the row that was changed, or one beside it
  pub adjusted : (m : FinMap R X) (k : K) (f : X → X) (q : K) (y : X) → get (adjust m k f) q ≡ Some y → ((q ≡ k) × ((x : X) × (get m k ≡ Some x) × (y ≡ f x))) ⊎ ((q ≢ k) × (get m q ≡ Some y))
  adjusted m k f q y e =
      elim (same_or o k q) [
        | inl same ↦ inl (same, was_mapped f y (get m k) (sym (adjusted-here m k f) ∙ ap (get (adjust m k f)) (sym same) ∙ e))
        | inr differ ↦ inr (differ, sym (adjusted-beside m k f q differ) ∙ e)
      ]

  adjust_at : (P : K → X → Type 0) (m : FinMap R X) (k : K) (f : X → X) (r : Option X) → get m k ≡ r → ((x : X) → r ≡ Some x → P k (f x)) → EachRow m P → EachRow (adjust m k f) P
  adjust_at P m k f None e here each = λ q x at. each q x (ap (λ n. get n q) (sym (adjust-none m k f e)) ∙ at)
  adjust_at P m k f (Some x) e here each = λ q y at. each-insert o P m k (f x) (here x refl) each q y (ap (λ n. get n q) (sym (adjust-there m k f x e)) ∙ at)

  -- P holds of the changed row, if there is one
  pub each-adjust : (P : K → X → Type 0) (m : FinMap R X) (k : K) (f : X → X) → ((x : X) → get m k ≡ Some x → P k (f x)) → EachRow m P → EachRow (adjust m k f) P
  each-adjust P m k f here each = adjust_at P m k f (get m k) refl here each

  pub each-adjust-known : (P : K → X → Type 0) (m : FinMap R X) (k : K) (f : X → X) (x : X) → get m k ≡ Some x → P k (f x) → EachRow m P → EachRow (adjust m k f) P
  each-adjust-known P m k f x e here each = λ q y at. each-insert o P m k (f x) here each q y (ap (λ n. get n q) (sym (adjust-there m k f x e)) ∙ at)

  -- ---- each row changed
  mapped_find : {Y : Type 0} (f : K → X → Y) (es : List (K × X)) (q : K) → find R q (changed f es) ≡ option_map (f q) (find R q es)
  mapped_find f [] q = refl
  mapped_find f (e ∷ es) q =
      elim (eq_by_cmp R q e.0) as (λ b. eq_by_cmp R q e.0 ≡ b → cond b (Some (f e.0 e.1)) (find R q (changed f es)) ≡ option_map (f q) (cond b (Some e.1) (find R q es))) [
        | true ↦ λ t. ap (λ k. Some (f k e.1)) (sym (same_of o q e.0 t))
        | false ↦ λ t. mapped_find f es q
      ] refl

  pub get-mapped : {Y : Type 0} (f : K → X → Y) (m : FinMap R X) (q : K) → get (map_values f m) q ≡ option_map (f q) (get m q)
  unfolding map_values
  get-mapped f m q = get-from_entries o.total (changed f (entries m)) q ∙ mapped_find f (entries m) q ∙ ap (option_map (f q)) (sym (get-entries m q))

  -- a row was one that f changed
  pub mapped : {Y : Type 0} (f : K → X → Y) (m : FinMap R X) (q : K) (y : Y) → get (map_values f m) q ≡ Some y → (x : X) × (get m q ≡ Some x) × (y ≡ f q x)
  mapped f m q y e = was_mapped (f q) y (get m q) (sym (get-mapped f m q) ∙ e)

  pub each-map : {Y : Type 0} (P : K → Y → Type 0) (f : K → X → Y) (m : FinMap R X) → EachRow m (λ k x. P k (f k x)) → EachRow (map_values f m) P
  each-map P f m each = λ q y e. let was = mapped f m q y e in subst (P q) (sym was.2) (each q was.0 was.1)
