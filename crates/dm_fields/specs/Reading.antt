-- What it means to read a value of which it is known how it is spelled.
use Rattle.std.specs.Prelude.{◌≡◌, ⊤, List, ℕ, ◌++◌, length, Result, Ok, Err}
use Rattle.std.specs.List.{AllByRecursion}
use Rattle.dm_fields.specs.declared.input.ReadError.{ReadError}
use Rattle.dm_fields.specs.declared.input.ReadError.TheVariants.{Damaged, NoMemory}

-- The front of the bytes was read. Where it is damaged no value that fits is spelled there, whatever follows; want of
-- memory tells nothing.
abbrev pub IsRead : {X : Type 0} → (X → List ℕ) → (X → Type 0) → List ℕ → List ℕ → Result X ReadError → Type 0
IsRead {X} spelling Fits old new (Ok x) = (old ≡ spelling x ++ new) × Fits x
IsRead {X} spelling Fits old new (Err Damaged) = (x : X) (rest : List ℕ) → Fits x → old ≡ spelling x ++ rest → ⊥
IsRead {X} spelling Fits old new (Err NoMemory) = ⊤

-- A spelling tells the value that it is of, and where it ends.
abbrev pub IsSpelledOnce : {X : Type 0} → (X → List ℕ) → (X → Type 0) → Type 0
IsSpelledOnce {X} spelling Fits = (x y : X) (r s : List ℕ) → Fits x → Fits y → spelling x ++ r ≡ spelling y ++ s → (x ≡ y) × (r ≡ s)

-- so many items, each of which fits
abbrev pub AreItems : {X : Type 0} → (X → Type 0) → ℕ → List X → Type 0
AreItems Fits count xs = (length xs ≡ count) × AllByRecursion Fits xs
