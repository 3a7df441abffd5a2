-- What it means to write a spelling into bytes that have room for it.
use Rattle.std.specs.Prelude.{◌≡◌, ℕ, ◌+◌, List, ◌++◌, length, take}

-- it stands behind the first `at` bytes, which stay, and ends at `end`
pub record IsPut (spelling : List ℕ) (at : ℕ) (old new : List ℕ) (end : ℕ) : Type 0 where
  pub ends : end ≡ at + length spelling
  pub stands : take end new ≡ take at old ++ spelling
