-- What is said of the rows of a table, whatever its keys are.
use Rattle.std.specs.Prelude.{◌≡◌, Bool, true, false, Option, None, Some, List, [], ◌∷◌, slice_get, filter}
use Rattle.std.specs.List.{list_any}
use Rattle.std.specs.Ordering.{is_lt}
use Rattle.std.specs.declared.cmp.Ordering.{Ordering}
use Rattle.std.specs.FinMap as map

-- the test of a row, where there is one
abbrev pub passes : {K X : Type 0} → (K → X → Bool) → K → Option X → Bool
passes p k None = false
passes p k (Some x) = p k x

-- the entries, each row changed by f
abbrev pub changed : {K X Y : Type 0} → (K → X → Y) → List (K × X) → List (K × Y)
changed f [] = []
changed f (e ∷ es) = (e.0, f e.0 e.1) ∷ changed f es

-- whether a key lies past k, or past none
abbrev pub is_past : {K : Type 0} → (K → K → Ordering) → Option K → K → Bool
is_past R None q = true
is_past R (Some k) q = is_lt (R k q)

module _ {K X : Type 0} {R : K → K → Ordering} where
  -- P holds of each key and the row there
  abbrev pub EachRow : map.FinMap R X → (K → X → Type 0) → Type 0
  EachRow m P = (k : K) (x : X) → map.get m k ≡ Some x → P k x

  -- what was found at k, changed by f, is put there
  abbrev pub put_changed : map.FinMap R X → K → (X → X) → Option X → map.FinMap R X
  put_changed m k f None = m
  put_changed m k f (Some x) = map.insert m k (f x)

  -- the row of k is changed by f, if it is there
  unfoldable pub adjust : map.FinMap R X → K → (X → X) → map.FinMap R X
  adjust m k f = put_changed m k f (map.get m k)

  -- whether some row passes the test
  unfoldable pub any : (K → X → Bool) → map.FinMap R X → Bool
  any p m = list_any (λ k. passes p k (map.get m k)) (map.keys m)

  -- each row is changed by f
  unfoldable pub map_values : {Y : Type 0} → (K → X → Y) → map.FinMap R X → map.FinMap R Y
  map_values f m = map.from_entries (changed f (map.entries m))

  -- the first of the rows that lie past k, or of all
  unfoldable pub row_after : map.FinMap R X → Option K → Option (K × X)
  row_after m k = slice_get (filter (λ e. is_past R k e.0) (map.entries m)) 0
