-- Bytes that change by themselves, as the field `rot` of a bay over memory asks for.
use Rattle.std.specs.Prelude.{ℕ, Bool, not, List, [], ◌∷◌, slice_set, ◌==◌, ◌&&◌, if◌then◌else◌}
use Rattle.std.specs.List.{list_any}

-- before the call of this number, in this file, at this place, comes this byte
abbrev pub Rot : Type 0
Rot = ℕ × ℕ × ℕ × ℕ

-- what one entry makes of the bytes of file g before a call; past the end there is nothing to change
abbrev pub rotted_by : Rot → ℕ → ℕ → List ℕ → List ℕ
rotted_by entry call g file = if (entry.0 == call) && (entry.1 == g) then slice_set file entry.2 entry.3 else file

-- what the entries make of it, one after another
abbrev pub rotted : List Rot → ℕ → ℕ → List ℕ → List ℕ
rotted [] call g file = file
rotted (entry ∷ rest) call g file = rotted rest call g (rotted_by entry call g file)

-- no entry names this file
abbrev pub is_unnamed : List Rot → ℕ → Bool
is_unnamed rot g = not (list_any (λ entry. entry.1 == g) rot)
