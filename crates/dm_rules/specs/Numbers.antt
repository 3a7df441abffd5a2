-- Numbers of 64 bits.
use Rattle.std.specs.Prelude.{ℕ, ◌+◌, ◌-◌, ◌*◌, ◌^◌}

-- the lesser of two
abbrev pub lesser : ℕ → ℕ → ℕ
lesser m n = m - (m - n)

-- the greater of two
abbrev pub greater : ℕ → ℕ → ℕ
greater m n = m + (n - m)

-- the greatest number of 64 bits
abbrev pub last_u64 : ℕ
last_u64 = 18446744073709551615

-- a number as 64 bits hold it: one that passes them stands at their last value. No state that a run of this product
-- reaches comes near
abbrev pub as_word : ℕ → ℕ
as_word n = lesser n last_u64

-- the fewest things, or bytes, that 32 bits can't count: a piece of so many chunks has no zone, and no payload has a list of
-- so many
abbrev pub count_limit : ℕ
count_limit = 2 ^ 32

-- a bitfile's identifier: the site in the upper 64 bits, the counter in the lower 64
abbrev pub bfid_of : ℕ → ℕ → ℕ
bfid_of site counter = site * 2 ^ 64 + counter
