-- What the first bytes of an area's file say, and its rows' lengths.
use Rattle.std.specs.Prelude.{◌≡◌, ℕ, ◌+◌, ◌≤◌, List, ◌∷◌, length, take, Bool, true, false, Option, Some, None}
use Rattle.std.specs.Int.{w32, to_be_bytes}
use Rattle.dm_host.specs.Disk.{part}
use Rattle.dm_journal.specs.Grammar.{longest}
use Rattle.dm_ckpt.specs.declared.survey.Header.{Header}
use Rattle.dm_ckpt.specs.declared.survey.Found.{Found}
use Rattle.dm_ckpt.specs.declared.survey.Found.TheVariants.{Shut, Wrong, Open}
use Rattle.dm_ckpt.specs.Area.{body, header, IsShut, HoldsRows, IsDamaged, BeginsWithRows}

abbrev pub Says : Header → List ℕ → Type 0
Says h file = part file 0 17 ≡ h.gate ∷ header h.generation h.size

-- Behind m bytes of rows stands one of n bytes that a log could take; or there is none, and they are no rows.
abbrev pub RowAt : Option ℕ → ℕ → List ℕ → Type 0
RowAt None m bytes = BeginsWithRows m bytes → ⊥
RowAt (Some n) m bytes = (n ≤ longest) × (4 + n ≤ m) × (take 4 bytes ≡ to_be_bytes w32 n)

-- it holds those rows, or is shut
abbrev pub HoldsIf : Bool → ℕ → List (List ℕ) → List ℕ → Type 0
HoldsIf true generation rows file = HoldsRows generation rows file
HoldsIf false generation rows file = IsShut file

-- it is shut, or damaged, or holds rows of that generation and that length
abbrev pub Surveys : Found → List ℕ → Type 0
Surveys Shut file = IsShut file
Surveys Wrong file = IsDamaged file
Surveys (Open area) file = (rows : List (List ℕ)) × (HoldsRows area.generation rows file × (area.size ≡ length (body rows)))

abbrev pub size_found : Found → ℕ
size_found Shut = 0
size_found Wrong = 0
size_found (Open area) = area.size
