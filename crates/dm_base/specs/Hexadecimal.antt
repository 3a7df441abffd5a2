-- Numbers as hexadecimal digits.
use Rattle.std.specs.Prelude.{ℕ, ◌+◌, ◌/◌, ◌%◌, nat_lt, if◌then◌else◌, List, [], ◌∷◌, ◌++◌, zero, suc}

-- the digit of a value below 16: 48 is `0`, and 87 + 10 is `a`
abbrev pub hexadecimal_digit : ℕ → ℕ
hexadecimal_digit d = if nat_lt d 10 then 48 + d else 87 + d

-- the lowest `count` digits of a number, the highest of them first
unfoldable pub hexadecimal : ℕ → ℕ → List ℕ
hexadecimal zero n = []
hexadecimal (suc count) n = hexadecimal count (n / 16) ++ hexadecimal_digit (n % 16) ∷ []
