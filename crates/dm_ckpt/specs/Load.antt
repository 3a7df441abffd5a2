-- Reading what a component's files stand for, a payload at a time: the rows of the area in use, then its log.
use Rattle.std.specs.Prelude.{◌≡◌, ◌⊎◌, ℕ, ◌+◌, ◌≤◌, List, [], ◌∷◌, ◌++◌, length, drop, Option, Some, None, Result, Ok, Err, nat_lt, if◌then◌else◌, Bool}
use Rattle.std.specs.Borrow.{Bor}
use Rattle.std.specs.List.{AllByRecursion}
use Rattle.dm_host.specs.Disk.{Disk, Image, Only, Tells}
use Rattle.dm_host.specs.Works.{Here}
use Rattle.dm_base.specs.declared.error.LoadError.{LoadError}
use Rattle.dm_journal.specs.Grammar.{Fits, frames}
use Rattle.dm_journal.specs.Load.{Reading as LogReading, IsDamage, loading_at}
use Rattle.dm_ckpt.specs.declared.files.Index.{Index}
use Rattle.dm_ckpt.specs.declared.files.Index.TheVariants.{First, Second}
use Rattle.dm_ckpt.specs.declared.doubt.Doubt.TheVariants.{Sure}
use Rattle.dm_ckpt.specs.Area.{body, body_place, Holds, IsDamaged, SameGeneration}
use Rattle.dm_ckpt.specs.Files.{opposite, area_file, log_file, Mine, TellsMine}
use Rattle.dm_ckpt.specs.State.{StandsFor, InUseIf, IsBehind, At, at, Keeps, Stands}

-- where a load stands: the next row and the end of the rows in the area, the next gate and the end of the log, and the
-- file and the place of the last payload
pub record LoadAt : Type 0 where
  pub component : ℕ
  pub index : Index
  pub has_area : Bool
  pub generation : ℕ
  pub row : ℕ
  pub row_end : ℕ
  pub place : ℕ
  pub log_end : ℕ
  pub file : ℕ
  pub last : ℕ

-- behind a row of n bytes
abbrev pub behind_row : LoadAt → ℕ → LoadAt
behind_row l n = record l { row = l.row + (4 + n); file = area_file l.component l.index; last = 0 }

-- behind a payload of n bytes of the log
abbrev pub behind_payload : LoadAt → ℕ → LoadAt
behind_payload l n = record l { place = l.place + (5 + n); file = log_file l.component l.index; last = l.place }

-- These payloads were read. What is read is what a crash leaves.
pub record Reading (d : Disk) (l : LoadAt) (payloads : List (List ℕ)) : Type 0 where
  pub told : TellsMine d l.component
  pub rows : List (List ℕ)
  pub rows_left : List (List ℕ)
  pub logged : List (List ℕ)
  pub is : payloads ≡ rows ++ logged
  pub turn : (rows_left ≡ []) ⊎ (logged ≡ [])
  pub in_use : InUseIf l.has_area l.index l.generation (rows ++ rows_left) (d.seen (area_file l.component l.index))
  pub synced : Only (d.seen (area_file l.component l.index)) (d.may_leave (area_file l.component l.index))
  pub at_row : l.row ≡ body_place + length (body rows)
  pub at_row_end : l.row_end ≡ l.row + length (body rows_left)
  pub behind : IsBehind l.generation (d.seen (area_file l.component (opposite l.index)))
  pub behind_synced : Only (d.seen (area_file l.component (opposite l.index))) (d.may_leave (area_file l.component (opposite l.index)))
  pub log : LogReading d (loading_at (log_file l.component l.index) l.place 0 l.log_end) logged

-- the store that is ready where the load stands
abbrev pub ready_at : LoadAt → At
ready_at l = at l.component l.index l.generation l.place Sure

-- behind the next payload, of n bytes
abbrev pub moved : LoadAt → ℕ → LoadAt
moved l n = if nat_lt l.row l.row_end then behind_row l n else behind_payload l n

-- These are all, and the store is ready; or one more payload.
abbrev pub Finds : Disk → LoadAt → List (List ℕ) → Option (Bor (List ℕ)) → Type 0
Finds d l payloads None = Keeps d (ready_at l) payloads
Finds d l payloads (Some payload) = Fits payload.now × Reading d (moved l (length payload.now)) (payloads ++ payload.now ∷ [])

-- where the load is after it
abbrev pub Gives : LoadAt → Result (Option (Bor (List ℕ))) LoadError → LoadAt → Type 0
Gives old (Ok (Some payload)) new = new ≡ moved old (length payload.now)
Gives old (Ok None) new = new ≡ old
Gives old (Err e) new = new ≡ old

-- An area of the component is outside the grammar, or both have one generation. The first is named where both are damaged.
abbrev pub IsDamagedArea : ℕ → ℕ → Image → Type 0
IsDamagedArea component f x =
    ((f ≡ area_file component First) × (IsDamaged (x (area_file component First)) ⊎ SameGeneration (x (area_file component First)) (x (area_file component Second))))
    ⊎ ((f ≡ area_file component Second) × (Holds (x (area_file component First)) × IsDamaged (x (area_file component Second))))

-- The log is damaged where the load stands.
pub record IsDamagedLog (l : LoadAt) (x : Image) : Type 0 where
  pub logged : List (List ℕ)
  pub reached : l.place ≡ length (frames logged)
  pub damage : IsDamage logged (x (log_file l.component l.index))

-- it stands for what each image stands for that a crash at d may leave
abbrev pub Retells : ℕ → Disk → Image → Type 0
Retells component d x = (payloads : List (List ℕ)) → ((y : Image) → Here (Mine component) d y → StandsFor component payloads y) → StandsFor component payloads x

-- One more payload of n bytes, which stands in the buffer; or there is none.
abbrev pub Steps : Disk → LoadAt → List (List ℕ) → List ℕ → Option ℕ → Type 0
Steps d l payloads items None = Keeps d (ready_at l) payloads
Steps d l payloads items (Some n) = Fits items × (length items ≡ n) × Reading d (moved l n) (payloads ++ items ∷ [])

-- From a place on to the end stand these rows, and then what has no meaning.
pub record RowsAt (rows : List (List ℕ)) (junk : List ℕ) (place end : ℕ) (file : List ℕ) : Type 0 where
  pub fits : AllByRecursion Fits rows
  pub size : end ≡ place + length (body rows)
  pub within : end ≤ length file
  pub is : drop place file ≡ body rows ++ junk

-- the first of them was read
abbrev pub FirstRow : List (List ℕ) → List ℕ → Option ℕ → Type 0
FirstRow [] items found = ⊥
FirstRow (row ∷ rows) items found = (found ≡ Some (length row)) × (items ≡ row)

-- a load by its numbers
abbrev pub loading : ℕ → Index → Bool → ℕ → ℕ → ℕ → ℕ → ℕ → ℕ → ℕ → LoadAt
loading component index has_area generation row row_end place log_end file last = record {
  component = component;
  index = index;
  has_area = has_area;
  generation = generation;
  row = row;
  row_end = row_end;
  place = place;
  log_end = log_end;
  file = file;
  last = last;
}

-- The log of a load is such as its calls need it, also where the disk tells of some of the files alone.
abbrev pub LoadStands : Disk → LoadAt → Type 0
LoadStands d l = Tells d (log_file l.component l.index)
    → (logged : List (List ℕ)) × LogReading d (loading_at (log_file l.component l.index) l.place 0 l.log_end) logged

abbrev pub StepStands : Disk → LoadAt → Option ℕ → Type 0
StepStands d l None = Stands d (ready_at l)
StepStands d l (Some n) = LoadStands d (moved l n)

abbrev pub FindStands : Disk → LoadAt → Option (Bor (List ℕ)) → Type 0
FindStands d l None = Stands d (ready_at l)
FindStands d l (Some payload) = LoadStands d (moved l (length payload.now))
