-- The list of payloads that a component's files stand for: the rows of its open area, then the payloads of its log.
use Rattle.std.specs.Prelude.{◌≡◌, ◌⊎◌, ℕ, ◌+◌, ◌<◌, ◌≤◌, List, [], ◌∷◌, ◌++◌, length, ⊤, Bool, true, false}
use Rattle.std.specs.List.{AllByRecursion}
use Rattle.dm_host.specs.Disk.{Disk, Image, Settled}
use Rattle.dm_journal.specs.Grammar.{Fits, frames, AtRest, Pends, StandsFor as LogStandsFor}
use Rattle.dm_journal.specs.State.{settled_at, doubtful_at, Keeps as LogKeeps, Doubts as LogDoubts}
use Rattle.dm_ckpt.specs.declared.files.Index.{Index}
use Rattle.dm_ckpt.specs.declared.files.Index.TheVariants.{First}
use Rattle.dm_ckpt.specs.declared.doubt.Doubt.{Doubt}
use Rattle.dm_ckpt.specs.declared.doubt.Doubt.TheVariants.{Sure, Payload, Closing, Turning}
use Rattle.dm_ckpt.specs.Area.{IsShut, IsClosed, HoldsRows, body_length, body_limit}
use Rattle.dm_ckpt.specs.Files.{opposite, area_file, log_file, TellsMine}
use Rattle.dm_host.specs.Disk.{Tells}

-- no checkpoint follows this generation
abbrev pub last_generation : ℕ
last_generation = 18446744073709551615

-- the area of the index in use: it holds these rows, or there was no checkpoint yet
abbrev pub InUse : Index → ℕ → List (List ℕ) → List ℕ → Type 0
InUse index generation rows area =
    HoldsRows generation rows area ⊎ (IsShut area × ((index ≡ First) × ((generation ≡ 0) × (rows ≡ []))))

-- the same, where it is known which of the two
abbrev pub InUseIf : Bool → Index → ℕ → List (List ℕ) → List ℕ → Type 0
InUseIf true index generation rows area = HoldsRows generation rows area
InUseIf false index generation rows area = IsShut area × ((index ≡ First) × ((generation ≡ 0) × (rows ≡ [])))

-- the area of the other index: no area, or one of an earlier generation
abbrev pub IsBehind : ℕ → List ℕ → Type 0
IsBehind generation area = IsShut area ⊎ ((g : ℕ) × ((rows : List (List ℕ)) × (HoldsRows g rows area × (g < generation))))

-- An image stands for these payloads.
pub record StandsFor (component : ℕ) (payloads : List (List ℕ)) (x : Image) : Type 0 where
  pub index : Index
  pub generation : ℕ
  pub rows : List (List ℕ)
  pub logged : List (List ℕ)
  pub is : payloads ≡ rows ++ logged
  pub in_use : InUse index generation rows (x (area_file component index))
  pub behind : IsBehind generation (x (area_file component (opposite index)))
  pub log : LogStandsFor logged (x (log_file component index))

-- the old list or the new one
abbrev pub Either : ℕ → List (List ℕ) → List (List ℕ) → Image → Type 0
Either component old new x = StandsFor component old x ⊎ StandsFor component new x

-- A store: its component, the index and the generation in use, the place of its log's gate, and what is in doubt.
pub record At : Type 0 where
  pub component : ℕ
  pub index : Index
  pub generation : ℕ
  pub place : ℕ
  pub doubt : Doubt

abbrev pub at : ℕ → Index → ℕ → ℕ → Doubt → At
at component index generation place doubt =
    record { component = component; index = index; generation = generation; place = place; doubt = doubt }

-- What a read gives of the four files, and what each crash leaves of them, has these properties.
pub record Leaves (d : Disk) (component : ℕ) (index : Index) (Area Behind Log Spare : List ℕ → Type 0) : Type 0 where
  pub told : TellsMine d component
  pub area : Area (d.seen (area_file component index))
  pub area_left : Settled d (area_file component index) Area
  pub behind : Behind (d.seen (area_file component (opposite index)))
  pub behind_left : Settled d (area_file component (opposite index)) Behind
  pub log : Log (d.seen (log_file component index))
  pub log_left : Settled d (log_file component index) Log
  pub spare : Spare (d.seen (log_file component (opposite index)))
  pub spare_left : Settled d (log_file component (opposite index)) Spare

-- The payloads of a store: the rows that its area's bytes hold, and what its log has before the gate.
pub record Lists (index : Index) (generation place : ℕ) (payloads : List (List ℕ)) : Type 0 where
  pub rows : List (List ℕ)
  pub logged : List (List ℕ)
  pub is : payloads ≡ rows ++ logged
  pub bytes : List ℕ
  pub in_use : InUse index generation rows bytes
  pub fits : AllByRecursion Fits logged
  pub reached : place ≡ length (frames logged)

-- It keeps these payloads: they are what a load gives, and what each crash leaves.
pub record Keeps (d : Disk) (s : At) (payloads : List (List ℕ)) : Type 0 where
  pub sure : s.doubt ≡ Sure
  pub lists : Lists s.index s.generation s.place payloads
  pub other : List ℕ
  pub behind : IsBehind s.generation other
  pub left : Leaves d s.component s.index (λ l. l ≡ lists.bytes) (λ l. l ≡ other) (AtRest lists.logged) (λ l. ⊤)

-- It keeps these payloads, and may keep one more: an append of that one failed.
pub record Doubts (d : Disk) (s : At) (payloads : List (List ℕ)) (payload : List ℕ) : Type 0 where
  pub doubt : s.doubt ≡ Payload (length payload)
  pub lists : Lists s.index s.generation s.place payloads
  pub payload_fits : Fits payload
  pub other : List ℕ
  pub behind : IsBehind s.generation other
  pub left : Leaves d s.component s.index (λ l. l ≡ lists.bytes) (λ l. l ≡ other) (Pends lists.logged payload) (λ l. ⊤)

-- an area that a checkpoint was writing: shut, or whole
abbrev pub MayHold : ℕ → List (List ℕ) → List ℕ → Type 0
MayHold generation rows area = IsShut area ⊎ HoldsRows generation rows area

-- A checkpoint failed before it wrote to the other area: that is as it was before, or shut.
pub record Closes (d : Disk) (s : At) (payloads : List (List ℕ)) : Type 0 where
  pub doubt : s.doubt ≡ Closing
  pub lists : Lists s.index s.generation s.place payloads
  pub left : Leaves d s.component s.index (λ l. l ≡ lists.bytes) (IsBehind s.generation) (AtRest lists.logged) (λ l. ⊤)

-- A checkpoint failed later: the other log is empty, and the other area is shut or holds the new rows.
pub record Replaces (d : Disk) (s : At) (old new : List (List ℕ)) : Type 0 where
  pub doubt : s.doubt ≡ Turning
  pub lists : Lists s.index s.generation s.place old
  pub left : Leaves d s.component s.index (λ l. l ≡ lists.bytes) (MayHold (s.generation + 1) new) (AtRest lists.logged) (AtRest [])

-- It keeps the one list or the other: a checkpoint from the first to the second failed.
abbrev pub Turns : Disk → At → List (List ℕ) → List (List ℕ) → Type 0
Turns d s old new = Closes d s old ⊎ Replaces d s old new

-- Between a checkpoint's second step and its third: the other area is shut whatever is written behind its gate.
pub record Emptied (d : Disk) (s : At) (payloads : List (List ℕ)) : Type 0 where
  pub lists : Lists s.index s.generation s.place payloads
  pub left : Leaves d s.component s.index (λ l. l ≡ lists.bytes) IsClosed (AtRest lists.logged) (AtRest [])

-- This log is empty, if the disk tells of it.
pub record EmptyLog (d : Disk) (log : ℕ) : Type 0 where
  pub seen : Tells d log → AtRest [] (d.seen log)
  pub left : Tells d log → Settled d log (AtRest [])

-- The log of an index, if the disk tells of it, is a journal whose gate stands at this place.
abbrev pub LogAt : Disk → ℕ → Index → ℕ → Type 0
LogAt d component index place =
    Tells d (log_file component index) → (logged : List (List ℕ)) × LogKeeps d (settled_at (log_file component index) place) logged

-- It is one whose last append, of a payload of n bytes, may have landed.
abbrev pub LogDoubtful : Disk → ℕ → Index → ℕ → ℕ → Type 0
LogDoubtful d component index place n =
    Tells d (log_file component index) → (logged : List (List ℕ)) × ((payload : List ℕ) × LogDoubts d (doubtful_at (log_file component index) place n) logged payload)

abbrev pub LogsAt : Disk → ℕ → Index → ℕ → Doubt → Type 0
LogsAt d component index place Sure = LogAt d component index place
LogsAt d component index place (Payload n) = LogDoubtful d component index place n
LogsAt d component index place Closing = LogAt d component index place
LogsAt d component index place Turning = LogAt d component index place × LogAt d component (opposite index) 0

-- A store's logs are such as its calls need them, also where the disk tells of some of its files alone.
abbrev pub Stands : Disk → At → Type 0
Stands d s = LogsAt d s.component s.index s.place s.doubt

-- the one list or the other, by an append or a checkpoint that failed
abbrev pub Between : Disk → At → List (List ℕ) → List (List ℕ) → Type 0
Between d s old new = ((payload : List ℕ) × (Doubts d s old payload × (new ≡ old ++ payload ∷ []))) ⊎ Turns d s old new

-- the store behind a checkpoint, and behind a heal of one
abbrev pub checkpointed : At → At
checkpointed s = at s.component (opposite s.index) (s.generation + 1) 0 Sure

-- the store behind an append of n bytes
abbrev pub behind_append : At → ℕ → At
behind_append s n = at s.component s.index s.generation (s.place + (5 + n)) Sure

abbrev pub with_doubt : At → Doubt → At
with_doubt s doubt = at s.component s.index s.generation s.place doubt

abbrev pub turned : Bool → At → At
turned true s = checkpointed s
turned false s = with_doubt s Sure

abbrev pub list_turned : Bool → List (List ℕ) → List (List ℕ) → List (List ℕ)
list_turned true old new = new
list_turned false old new = old

-- bounds of what a doubt holds: the length of a payload, and whether a generation follows
abbrev pub length_doubted : Doubt → ℕ
length_doubted Sure = 0
length_doubted (Payload n) = n
length_doubted Closing = 0
length_doubted Turning = 0

abbrev pub generations_doubted : Doubt → ℕ
generations_doubted Sure = 0
generations_doubted (Payload n) = 0
generations_doubted Closing = 0
generations_doubted Turning = 1

-- a place of a gate from which a checkpoint is due, and that behind which no call leaves it that appends once
abbrev pub due_place : ℕ
due_place = 67108864

abbrev pub last_place_behind : ℕ
last_place_behind = 88080388

-- A checkpoint is due: the log is long, a generation follows, and the rows are such as an area can have.
pub record IsDue (s : At) (rows : List (List ℕ)) : Type 0 where
  pub long : due_place ≤ s.place
  pub more : s.generation < last_generation
  pub fits : AllByRecursion Fits rows
  pub small : body_length rows < body_limit
