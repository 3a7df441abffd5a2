-- Reading a journal file from its start, a payload at a time.
use Rattle.std.specs.Prelude.{◌≡◌, ◌⊎◌, ℕ, ◌+◌, ◌≤◌, List, [], ◌∷◌, ◌++◌, length, Option, Some, None, Result, Ok, Err, IsErrOf}
use Rattle.std.specs.Borrow.{Bor}
use Rattle.std.specs.Int.{w32, to_be_bytes}
use Rattle.std.specs.List.{AllByRecursion}
use Rattle.dm_host.specs.Count.{Rose}
use Rattle.dm_host.specs.Disk.{Disk, Only, Tells, part}
use Rattle.dm_base.specs.declared.error.LoadError.{LoadError}
use Rattle.dm_base.specs.declared.error.LoadError.TheVariants.{Failed}
use Rattle.dm_journal.specs.Grammar.{longest, Fits, inner, frames}
use Rattle.dm_journal.specs.State.{Keeps, settled_at}

-- the file, the place of the next gate, that of the last payload's gate, and the length of the file
pub record LoadAt : Type 0 where
  pub file : ℕ
  pub place : ℕ
  pub last : ℕ
  pub end : ℕ

abbrev pub loading_at : ℕ → ℕ → ℕ → ℕ → LoadAt
loading_at file place last end = record { file = file; place = place; last = last; end = end }

-- behind a payload of n bytes
abbrev pub moved : LoadAt → ℕ → LoadAt
moved j n = loading_at j.file (j.place + (5 + n)) j.place j.end

-- a file as a load begins to read it
abbrev pub opened : List ℕ → List ℕ
opened [] = 0 ∷ []
opened (a ∷ []) = 0 ∷ []
opened (a ∷ b ∷ rest) = a ∷ b ∷ rest

-- the same file, or both have at most a byte
abbrev pub Reopens : List ℕ → List ℕ → Type 0
Reopens old new = (new ≡ old) ⊎ ((length old ≤ 1) × (length new ≤ 1))

-- These payloads were read. Behind their frames stands at least a gate. A crash leaves what is read.
pub record Reading (d : Disk) (j : LoadAt) (payloads : List (List ℕ)) : Type 0 where
  pub told : Tells d j.file
  pub place : j.place ≡ length (frames payloads)
  pub fits : AllByRecursion Fits payloads
  pub gate : ℕ
  pub rest : List ℕ
  pub is : d.seen j.file ≡ frames payloads ++ gate ∷ rest
  pub end : j.end ≡ length (d.seen j.file)
  pub synced : Only (d.seen j.file) (d.may_leave j.file)

-- Behind these payloads stands an open gate, and behind that no whole frame of a payload that fits with a gate behind it.
pub record IsDamage (payloads : List (List ℕ)) (file : List ℕ) : Type 0 where
  pub rest : List ℕ
  pub is : file ≡ frames payloads ++ 1 ∷ rest
  pub none : (payload : List ℕ) (gate : ℕ) (junk : List ℕ) → Fits payload → rest ≡ inner payload ++ gate ∷ junk → ⊥

-- what the gate and the length at a place say: the end, or a frame of n bytes that the file holds with the next gate
abbrev pub Measures : Disk → LoadAt → List (List ℕ) → Option ℕ → Type 0
Measures d j payloads None = Keeps d (settled_at j.file j.place) payloads
Measures d j payloads (Some n) = (n ≤ longest) × (part (d.seen j.file) j.place 5 ≡ 1 ∷ to_be_bytes w32 n) × (j.place + (n + 6) ≤ j.end)

-- the same, with the payload that was read
abbrev pub Advances : Disk → LoadAt → List (List ℕ) → List ℕ → Option ℕ → Type 0
Advances d j payloads payload None = Keeps d (settled_at j.file j.place) payloads
Advances d j payloads payload (Some n) = Fits payload × (length payload ≡ n) × Reading d (moved j n) (payloads ++ payload ∷ [])

-- A load found the end, and the journal is ready; or one more payload.
abbrev pub Finds : Disk → LoadAt → List (List ℕ) → Option (Bor (List ℕ)) → Type 0
Finds d j payloads None = Keeps d (settled_at j.file j.place) payloads
Finds d j payloads (Some payload) = Fits payload.now × Reading d (moved j (length payload.now)) (payloads ++ payload.now ∷ [])

-- where the load is after it
abbrev pub Gives : LoadAt → Result (Option (Bor (List ℕ))) LoadError → LoadAt → Type 0
Gives old (Ok (Some payload)) new = new ≡ moved old (length payload.now)
Gives old (Ok None) new = new ≡ old
Gives old (Err e) new = new ≡ old

-- A load that fails for the outside is one fault, and any other answer of it is none. The count never falls.
pub record HasLoadCause {T : Type 0} (old new : ℕ) (result : Result T LoadError) : Type 0 where
  pub kept : old ≤ new
  pub none : (IsErrOf result Failed → ⊥) → new ≡ old
  pub rose : IsErrOf result Failed → Rose old new
