-- Rows of a table to which one was added, and of a table without rows.
use Rattle.std.proofs.Common.{◌≡◌, ◌≢◌, inl, inr, Ordering, Some, None, is_some, IsSome, sym, ap, ◌∙◌, subst}
use Rattle.std.specs.FinMap as map
use Rattle.dm_tables.specs.Rows.{EachRow}
use Rattle.dm_tables.proofs.Orders.{KeyOrder, same_or}
use Rattle.dm_tables.proofs.Rows.{get-here, get-beside, each-empty}

module _ {K X : Type 0} {R : K → K → Ordering} where
  -- a row that is there isn't at a key that is free
  pub key_differs : (m : map.FinMap R X) (k q : K) (x : X) → map.get m k ≡ None → map.get m q ≡ Some x → q ≢ k
  key_differs m k q x free is = λ same. let f = ap (map.get m) same in cc

module _ {K X : Type 0} {R : K → K → Ordering} (o : KeyOrder R) where
  -- and so is found as it was after one is added there
  pub beside_free : (m : map.FinMap R X) (k q : K) (v x : X) → map.get m k ≡ None → map.get m q ≡ Some x → map.get (map.insert m k v) q ≡ Some x
  beside_free m k q v x free is = get-beside o m k v q (key_differs m k q x free is) ∙ is

  -- what is there is still there
  pub still_there : (m : map.FinMap R X) (k : K) (v : X) (q : K) → IsSome (map.get m q) → IsSome (map.get (map.insert m k v) q)
  still_there m k v q there =
      elim (same_or o k q) [
        | inl same ↦ ap (λ x. is_some (map.get (map.insert m k v) x)) same ∙ ap is_some (get-here o m k v)
        | inr differ ↦ ap is_some (get-beside o m k v q differ) ∙ there
      ]

module _ {K X : Type 0} (R : K → K → Ordering) where
  -- anything holds of each row of an empty table
  pub each_of_empty : (P : K → X → Type 0) (m : map.FinMap R X) → m ≡ map.empty → EachRow m P
  each_of_empty P m empty = subst (λ t. EachRow t P) (sym empty) (each-empty R P)

  -- which has no row at all
  pub none_in_empty : (m : map.FinMap R X) (k : K) (x : X) → m ≡ map.empty → map.get m k ≡ Some x → ⊥
  none_in_empty m k x empty is = each_of_empty (λ q y. ⊥) m empty k x is

  -- so each look-up finds none
  pub get_of_empty : (m : map.FinMap R X) (k : K) → m ≡ map.empty → map.get m k ≡ None
  get_of_empty m k empty = ap (λ t. map.get t k) empty ∙ map.get-empty {X = X} R k
