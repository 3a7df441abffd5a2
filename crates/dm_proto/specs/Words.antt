-- The words of a line, and what a line is.
use Rattle.std.specs.Prelude.{◌≡◌, ◌≢◌, ◌==◌, ℕ, ◌≤◌, nat_lt, List, [], ◌∷◌, ◌++◌, length, filter}
use Rattle.std.specs.List.{AllByRecursion, slice_split}
use Rattle.std.specs.Str.Lines.{strip_carriage_return}
use Rattle.dm_base.specs.Limits.{line_limit}

-- no byte is a line feed (10)
abbrev pub HasNoEnd : List ℕ → Type 0
HasNoEnd bytes = AllByRecursion (λ b. b ≢ 10) bytes

-- the bytes of a line, without the line feed that ends it
pub record IsLine (line : List ℕ) : Type 0 where
  pub fits : length line ≤ line_limit
  pub no_end : HasNoEnd line

-- a line with the line feed that ends it
abbrev pub ended : List ℕ → List ℕ
ended line = line ++ 10 ∷ []

-- the parts between spaces (32) that are not empty
abbrev pub parts : List ℕ → List (List ℕ)
parts text = filter (λ part. nat_lt 0 (length part)) (slice_split (λ b. b == 32) text)

-- the words of a line: its parts, where one carriage return (13) at the very end is none of it
abbrev pub words : List ℕ → List (List ℕ)
words line = parts (strip_carriage_return line)

-- a line without a word
pub record IsBlank (line : List ℕ) : Type 0 where
  pub is_line : IsLine line
  pub no_word : words line ≡ []
