-- The two versions of volumes. All that depends on a volume's version says so by this number.
use Rattle.std.specs.Prelude.{ℕ, ◌+◌, ◌≤◌, nat_eq, Bool, if◌then◌else◌}

abbrev pub first_version : ℕ
first_version = 1

-- the one whose chunks have sums
abbrev pub second_version : ℕ
second_version = 2

-- a version that a volume may have
pub record IsVersion (version : ℕ) : Type 0 where
  pub low : first_version ≤ version
  pub high : version ≤ second_version

-- whether the header of a chunk ends with the SHA-256 of the chunk's bytes
abbrev pub has_sum : ℕ → Bool
has_sum version = nat_eq version second_version

-- the length of what the header of a chunk has in both versions
abbrev pub chunk_fields : ℕ
chunk_fields = 48

-- the length of the sum behind it
abbrev pub sum_length : ℕ → ℕ
sum_length version = if has_sum version then 32 else 0

-- the length of the header of a chunk
abbrev pub chunk_header : ℕ → ℕ
chunk_header version = chunk_fields + sum_length version
