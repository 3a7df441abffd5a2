-- What a read takes of a source, and what a write adds to a sink.
use Rattle.std.specs.Prelude.{◌≡◌, ◌⊎◌, ℕ, ◌≤◌, List, [], ◌++◌, length, take, drop, Option, Some, None, Result, MatchResult}
use Rattle.dm_host.specs.declared.Failed.{Failed}

-- a read of n bytes into this room: the next ones, and none only where there is no room or nothing is left
pub record Gives (left : List ℕ) (rest : Option (List ℕ)) (room : ℕ) (into : List ℕ) (n : ℕ) : Type 0 where
  pub within : n ≤ length left
  pub bytes : take n into ≡ take n left
  pub after : rest ≡ Some (drop n left)
  pub ends : n ≡ 0 → (room ≡ 0) ⊎ (left ≡ [])

-- what was left before and what is left after a read; a failed one takes no byte
abbrev pub Reads : Option (List ℕ) → Option (List ℕ) → ℕ → List ℕ → Result ℕ Failed → Type 0
Reads None after room into result = after ≡ None
Reads (Some left) after room into result = MatchResult result (λ n. Gives left after room into n) (λ e. after ≡ Some left)

-- what was taken before and after a write of these bytes: a front of them more; a failed one takes nothing
abbrev pub Takes : Option (List ℕ) → Option (List ℕ) → List ℕ → Result ℕ Failed → Type 0
Takes None after bytes result = after ≡ None
Takes (Some taken) after bytes result = MatchResult result (λ n. after ≡ Some (taken ++ take n bytes)) (λ e. after ≡ Some taken)
