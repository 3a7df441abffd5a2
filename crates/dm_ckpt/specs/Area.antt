-- An area: a gate, then a generation, the length of the body, and the body, which is rows. It is open where it has more
-- than one byte and its gate is 1; an area that isn't open has no meaning, nor has what stands behind a body.
use Rattle.std.specs.Prelude.{◌≡◌, ◌≢◌, ◌⊎◌, ℕ, ◌+◌, ◌<◌, ◌≤◌, ◌^◌, List, [], ◌∷◌, ◌++◌, length, flat_map, slice_index}
use Rattle.std.specs.Int.{w64, to_be_bytes}
use Rattle.std.specs.List.{AllByRecursion}
use Rattle.dm_journal.specs.Grammar.{Fits, inner}

-- the rows, each behind its length
abbrev pub body : List (List ℕ) → List ℕ
body rows = flat_map inner rows

-- the length of a body: that of each row, and four bytes for it
abbrev pub body_length : List (List ℕ) → ℕ
body_length [] = 0
body_length (row ∷ rows) = 4 + length row + body_length rows

-- a body is shorter than this, so that no place in an area overflows
abbrev pub body_limit : ℕ
body_limit = 4611686018427387904

-- what stands between the gate and the body: 16 bytes
unfoldable pub header : ℕ → ℕ → List ℕ
header generation size = to_be_bytes w64 generation ++ to_be_bytes w64 size

-- what stands behind the gate
abbrev pub content : ℕ → List (List ℕ) → List ℕ
content generation rows = header generation (length (body rows)) ++ body rows

-- the gate's bytes and the header's
abbrev pub body_place : ℕ
body_place = 17

-- it isn't open
abbrev pub IsShut : List ℕ → Type 0
IsShut file = (length file ≤ 1) ⊎ (slice_index file 0 ≢ 1)

-- a write behind the gate, cut short or not, leaves it shut
abbrev pub IsClosed : List ℕ → Type 0
IsClosed file = (0 < length file) × (slice_index file 0 ≢ 1)

-- it is open, with that generation and those rows
pub record HoldsRows (generation : ℕ) (rows : List (List ℕ)) (file : List ℕ) : Type 0 where
  pub number : generation < 2 ^ 64
  pub size : length (body rows) < 2 ^ 64
  pub fits : AllByRecursion Fits rows
  pub junk : List ℕ
  pub is : file ≡ 1 ∷ (content generation rows ++ junk)

-- a gate, these bytes, and what has no meaning
pub record Begins (gate : ℕ) (bytes file : List ℕ) : Type 0 where
  pub junk : List ℕ
  pub is : file ≡ gate ∷ (bytes ++ junk)

-- it is shut, or holds the rows of a generation
abbrev pub Holds : List ℕ → Type 0
Holds file = IsShut file ⊎ ((generation : ℕ) × ((rows : List (List ℕ)) × HoldsRows generation rows file))

-- it is open, and outside the grammar
pub record IsDamaged (file : List ℕ) : Type 0 where
  pub is_open : IsShut file → ⊥
  pub none : (generation : ℕ) (rows : List (List ℕ)) → HoldsRows generation rows file → ⊥

-- both are open with one generation
pub record SameGeneration (first second : List ℕ) : Type 0 where
  pub generation : ℕ
  pub rows : List (List ℕ)
  pub others : List (List ℕ)
  pub first_holds : HoldsRows generation rows first
  pub second_holds : HoldsRows generation others second

-- the first n bytes are rows that a log could take as payloads
pub record BeginsWithRows (n : ℕ) (bytes : List ℕ) : Type 0 where
  pub rows : List (List ℕ)
  pub junk : List ℕ
  pub fits : AllByRecursion Fits rows
  pub size : n ≡ length (body rows)
  pub is : bytes ≡ body rows ++ junk
