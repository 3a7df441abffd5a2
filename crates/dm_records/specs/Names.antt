-- The names that heads and states begin with.
use Rattle.std.specs.Prelude.{ℕ, List, [], ◌∷◌}
use Rattle.dm_durable.specs.declared.daemon_journal.JournalVersion.{JournalVersion}
use Rattle.dm_durable.specs.declared.daemon_journal.JournalVersion.TheVariants.{First, Second}

-- `DMDAEMN1` or `DMDAEMN2`
abbrev pub head_name : JournalVersion → List ℕ
head_name First = 68 ∷ 77 ∷ 68 ∷ 65 ∷ 69 ∷ 77 ∷ 78 ∷ (49 ∷ [])
head_name Second = 68 ∷ 77 ∷ 68 ∷ 65 ∷ 69 ∷ 77 ∷ 78 ∷ (50 ∷ [])

-- the same eight bytes as a number
abbrev pub name_number : JournalVersion → ℕ
name_number First = 4921665014912077361
name_number Second = 4921665014912077362
