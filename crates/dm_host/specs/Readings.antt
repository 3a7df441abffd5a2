-- The readings that a clock gave.
use Rattle.std.specs.Prelude.{◌≡◌, ◌⊎◌, ℕ, zero, suc, ◌-◌, ◌≤◌, min, List, [], ◌∷◌, ◌++◌, length, slice_index, Option, Some, None, ◌==◌, if◌then◌else◌}

-- one reading more; a clock stops telling them only where their number nears the last that its type holds
abbrev pub Adds : Option (List ℕ) → Option (List ℕ) → ℕ → Type 0
Adds None after reading = after ≡ None
Adds (Some readings) after reading = (after ≡ Some (readings ++ reading ∷ [])) ⊎ ((after ≡ None) × (18446744073709551614 ≤ length readings))

-- a reading of a clock that repeats its last one, and 0 where it has none
abbrev pub reading_at : List ℕ → ℕ → ℕ
reading_at readings n = slice_index readings (min n (length readings - 1))

-- the first n of them
abbrev pub first_readings : List ℕ → ℕ → List ℕ
first_readings readings zero = []
first_readings readings (suc n) = first_readings readings n ++ reading_at readings n ∷ []

-- they are told until the number of calls stands at its last value
abbrev pub told_readings : List ℕ → ℕ → Option (List ℕ)
told_readings readings n = if n == 18446744073709551615 then None else Some (first_readings readings n)
