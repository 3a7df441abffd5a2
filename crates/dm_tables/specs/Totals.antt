-- The sum of a weight over the rows of a table.
use Rattle.std.specs.Prelude.{ℕ, ◌+◌, Option, None, Some, List, [], ◌∷◌}
use Rattle.std.specs.declared.cmp.Ordering.{Ordering}
use Rattle.std.specs.FinMap as map

-- what a row adds, where there is one
abbrev pub weight_at : {X : Type 0} → (X → ℕ) → Option X → ℕ
weight_at w None = 0
weight_at w (Some x) = w x

-- over entries
abbrev pub sum_of : {K X : Type 0} → (X → ℕ) → List (K × X) → ℕ
sum_of w [] = 0
sum_of w (e ∷ es) = w e.1 + sum_of w es

-- over all rows
unfoldable pub total : {K X : Type 0} {R : K → K → Ordering} → (X → ℕ) → map.FinMap R X → ℕ
total w m = sum_of w (map.entries m)
