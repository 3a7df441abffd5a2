-- The sum of a weight over the rows, after a change.
use Rattle.std.proofs.Common.{◌≡◌, ℕ, ◌+◌, ◌≤◌, T, List, [], ◌∷◌, Option, None, Some, cond, refl, ap, ◌∙◌, arith, Ordering, Less, Equal, Greater, is_eq}
use Rattle.std.specs.List.{AllByRecursion}
use Rattle.std.specs.FinMap.{FinMap, empty, get, insert, remove, find, is_sorted, put, entries, entries_sorted, get-entries, entries-insert}
use Rattle.std.specs.FinMap.Entries.{below_all, by_order}
use Rattle.dm_tables.specs.Rows.{EachRow, adjust}
use Rattle.dm_tables.specs.Totals.{weight_at, sum_of, total}
use Rattle.dm_tables.proofs.Orders.{KeyOrder}
use Rattle.dm_tables.proofs.Entries.{first, second, entries-empty, find_below, below_less, entries-each}
use Rattle.dm_tables.proofs.Rows.{removed-here, insert-same, insert-remove, remove-none}
use Rattle.dm_tables.proofs.Adjusted.{adjust-there}

-- for code: a loop over the entries adds up
pub total-entries : {K X : Type 0} {R : K → K → Ordering} (w : X → ℕ) (m : FinMap R X) → total w m ≡ sum_of w (entries m)
unfolding total
total-entries w m = refl

pub total-empty : {K X : Type 0} (R : K → K → Ordering) (w : X → ℕ) → total w (empty {X = X} {R = R}) ≡ 0
unfolding total
total-empty R w = ap (sum_of w) (entries-empty R)

module _ {K X : Type 0} {R : K → K → Ordering} (o : KeyOrder R) where
  put_sum : (w : X → ℕ) (k : K) (v : X) (es : List (K × X)) → T (is_sorted R es) → sum_of w (put R k v es) + weight_at w (find R k es) ≡ w v + sum_of w es
  put_sum w k v [] h = omega arith
  put_sum w k v (e ∷ es) h =
      elim (R k e.0) as (λ r. R k e.0 ≡ r → sum_of w (by_order r ((k, v) ∷ e ∷ es) ((e.0, v) ∷ es) (e ∷ put R k v es)) + weight_at w (cond (is_eq r) (Some e.1) (find R k es)) ≡ w v + (w e.1 + sum_of w es)) [
        | Less ↦ λ p. let gone = ap (weight_at w) (find_below o k es (below_less o k e.0 es p (first _ _ h))) in omega arith
        | Equal ↦ λ p. omega arith
        | Greater ↦ λ p. let rest : sum_of w (put R k v es) + weight_at w (find R k es) ≡ w v + sum_of w es = put_sum w k v es (second (below_all R e.0 es) (is_sorted R es) h) in omega arith
      ] refl

  -- the new row is added in the place of the one that was
  pub total-insert : (w : X → ℕ) (m : FinMap R X) (k : K) (v : X) → total w (insert m k v) + weight_at w (get m k) ≡ w v + total w m
  unfolding total
  total-insert w m k v =
      let a = ap (sum_of w) (entries-insert o.total m k v) in
      let b = ap (weight_at w) (get-entries m k) in
      (λ i. a i + b i) ∙ put_sum w k v (entries m) (entries_sorted m)

  removed_sum : (w : X → ℕ) (m : FinMap R X) (k : K) (r : Option X) → get m k ≡ r → total w (remove m k) + weight_at w r ≡ total w m
  removed_sum w m k None e = let same = ap (total w) (remove-none o m k e) in omega arith
  removed_sum w m k (Some x) e =
      let back = ap (total w) (insert-remove o m k x ∙ insert-same o m k x e) in
      let gone = ap (weight_at w) (removed-here o m k) in
      let put = total-insert w (remove m k) k x in
      omega arith

  -- the row that is taken out is taken off
  pub total-remove : (w : X → ℕ) (m : FinMap R X) (k : K) → total w (remove m k) + weight_at w (get m k) ≡ total w m
  total-remove w m k = removed_sum w m k (get m k) refl

  pub total-adjust : (w : X → ℕ) (m : FinMap R X) (k : K) (f : X → X) (x : X) → get m k ≡ Some x → total w (adjust m k f) + w x ≡ w (f x) + total w m
  total-adjust w m k f x e =
      let is = ap (total w) (adjust-there m k f x e) in
      let was = ap (weight_at w) e in
      let put = total-insert w m k (f x) in
      omega arith

  -- no row weighs more than all
  pub row-le-total : (w : X → ℕ) (m : FinMap R X) (k : K) (x : X) → get m k ≡ Some x → w x ≤ total w m
  row-le-total w m k x e = let rest = removed_sum w m k (Some x) e in omega arith

  sum_same : (w v : X → ℕ) (es : List (K × X)) → AllByRecursion (λ e. w e.1 ≡ v e.1) es → sum_of w es ≡ sum_of v es
  sum_same w v [] all = refl
  sum_same w v (e ∷ es) all = let rest = sum_same w v es all.1 in λ i. all.0 i + rest i

  sum_le : (w v : X → ℕ) (es : List (K × X)) → AllByRecursion (λ e. w e.1 ≤ v e.1) es → sum_of w es ≤ sum_of v es
  sum_le w v [] all = omega arith
  sum_le w v (e ∷ es) all = let rest = sum_le w v es all.1 in let here = all.0 in omega arith

  -- two weights that are equal at each row, and one that is never above the other
  pub total-same : (w v : X → ℕ) (m : FinMap R X) → EachRow m (λ _ x. w x ≡ v x) → total w m ≡ total v m
  unfolding total
  total-same w v m each = sum_same w v (entries m) (entries-each o (λ _ x. w x ≡ v x) m each)

  pub total-le : (w v : X → ℕ) (m : FinMap R X) → EachRow m (λ _ x. w x ≤ v x) → total w m ≤ total v m
  unfolding total
  total-le w v m each = sum_le w v (entries m) (entries-each o (λ _ x. w x ≤ v x) m each)
