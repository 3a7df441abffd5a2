-- A journal, and the file of a disk that it writes.
use Rattle.std.specs.Prelude.{◌≡◌, ℕ, ◌+◌, Bool, true, false, List, [], ◌∷◌, ◌++◌, length, Option, Some, None}
use Rattle.std.specs.List.{AllByRecursion}
use Rattle.dm_host.specs.Disk.{Disk, Settled, Tells}
use Rattle.dm_journal.specs.Grammar.{Fits, frames, AtRest, Pends}

-- its file, the place of its gate, and where an append failed the length of that payload
pub record At : Type 0 where
  pub file : ℕ
  pub place : ℕ
  pub doubt : Option ℕ

abbrev pub settled_at : ℕ → ℕ → At
settled_at file place = record { file = file; place = place; doubt = None }

abbrev pub doubtful_at : ℕ → ℕ → ℕ → At
doubtful_at file place n = record { file = file; place = place; doubt = Some n }

-- It keeps these payloads: they are what a read gives, and what each crash leaves.
pub record Keeps (d : Disk) (j : At) (payloads : List (List ℕ)) : Type 0 where
  pub told : Tells d j.file
  pub settled : j.doubt ≡ None
  pub place : j.place ≡ length (frames payloads)
  pub fits : AllByRecursion Fits payloads
  pub seen : AtRest payloads (d.seen j.file)
  pub left : Settled d j.file (AtRest payloads)

-- It keeps these payloads, and may keep one more: an append of that one failed.
pub record Doubts (d : Disk) (j : At) (payloads : List (List ℕ)) (payload : List ℕ) : Type 0 where
  pub told : Tells d j.file
  pub doubt : j.doubt ≡ Some (length payload)
  pub place : j.place ≡ length (frames payloads)
  pub fits : AllByRecursion Fits payloads
  pub payload_fits : Fits payload
  pub seen : Pends payloads payload (d.seen j.file)
  pub left : Settled d j.file (Pends payloads payload)

-- the payloads, with the doubtful one where it landed
abbrev pub with_landed : Bool → List (List ℕ) → List ℕ → List (List ℕ)
with_landed true payloads payload = payloads ++ payload ∷ []
with_landed false payloads payload = payloads

-- the place of the gate behind a frame that landed
abbrev pub place_behind : Bool → ℕ → ℕ → ℕ
place_behind true place n = place + (5 + n)
place_behind false place n = place
