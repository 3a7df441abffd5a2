-- What it means to read bytes that are one value, and nothing else.
use Rattle.std.specs.Prelude.{◌≡◌, ⊤, ℕ, List, Result, Ok, Err}
use Rattle.dm_fields.specs.declared.input.ReadError.{ReadError}
use Rattle.dm_fields.specs.declared.input.ReadError.TheVariants.{Damaged, NoMemory}

-- All bytes were read. Where they are damaged they spell no value that fits; want of memory tells nothing.
abbrev pub IsWholeRead : {X : Type 0} → (X → List ℕ) → (X → Type 0) → List ℕ → Result X ReadError → Type 0
IsWholeRead {X} spelling Fits bytes (Ok x) = (bytes ≡ spelling x) × Fits x
IsWholeRead {X} spelling Fits bytes (Err Damaged) = (x : X) → Fits x → bytes ≡ spelling x → ⊥
IsWholeRead {X} spelling Fits bytes (Err NoMemory) = ⊤
