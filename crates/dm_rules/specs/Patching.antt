-- Replacing a range of bytes.
use Rattle.std.specs.Prelude.{ℕ, ◌+◌, ◌-◌, List, ◌++◌, length, take, drop, replicate}

-- bytes filled up with zeros to this length
abbrev pub with_zeros : ℕ → List ℕ → List ℕ
with_zeros end old = old ++ replicate (end - length old) 0

-- bytes with others written over those at a place
abbrev pub with_overlay : ℕ → List ℕ → List ℕ → List ℕ
with_overlay place bytes old = take place old ++ bytes ++ drop (place + length bytes) old

-- the bytes with others in the place of the range that begins at `offset`, up to which zeros fill a gap
unfoldable pub with_patch : ℕ → List ℕ → List ℕ → List ℕ
with_patch offset bytes old = take offset (with_zeros offset old) ++ bytes ++ drop (offset + length bytes) old
