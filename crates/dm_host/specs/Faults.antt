-- Which calls fail, and what counts of calls and faults come to.
use Rattle.std.specs.Prelude.{ℕ, Bool, false, ◌||◌, List, Option, Some, None, nat_lt, ◌==◌}
use Rattle.std.specs.List.{list_any}
use Rattle.dm_host.specs.Count.{raised}

-- one more, up to the last value of a u64
abbrev pub counted : ℕ → ℕ
counted n = raised 1 n

-- the number is one of these
abbrev pub is_numbered : List ℕ → ℕ → Bool
is_numbered numbers number = list_any (λ n. n == number) numbers

-- more calls than these were made
abbrev pub is_blown : Option ℕ → ℕ → Bool
is_blown None number = false
is_blown (Some calls) number = nat_lt calls number

-- the call of this number fails
abbrev pub is_failing : List ℕ → Option ℕ → ℕ → Bool
is_failing numbers fuse number = is_numbered numbers number || is_blown fuse number
