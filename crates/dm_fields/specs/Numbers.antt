-- Numbers as bytes, the highest first.
use Rattle.std.specs.Prelude.{ℕ, List}
use Rattle.std.specs.Int.{bytes_high_first}

-- a number as so many bytes
unfoldable pub big_endian : ℕ → ℕ → List ℕ
big_endian width n = bytes_high_first width n

abbrev pub be16 : ℕ → List ℕ
be16 n = big_endian 2 n

abbrev pub be32 : ℕ → List ℕ
be32 n = big_endian 4 n

abbrev pub be64 : ℕ → List ℕ
be64 n = big_endian 8 n

abbrev pub be128 : ℕ → List ℕ
be128 n = big_endian 16 n
