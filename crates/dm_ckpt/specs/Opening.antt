-- Which index a load reads, and where it begins.
use Rattle.std.specs.Prelude.{◌≡◌, ◌⊎◌, ℕ, ◌+◌, ◌<◌, ◌≤◌, ◌^◌, List, [], length}
use Rattle.dm_host.specs.Disk.{Disk, Image, Only, Tells}
use Rattle.dm_journal.specs.Load.{Reading as LogReading, loading_at}
use Rattle.dm_ckpt.specs.declared.files.Index.{Index}
use Rattle.dm_ckpt.specs.declared.files.Index.TheVariants.{First, Second}
use Rattle.dm_ckpt.specs.declared.opening.Origin.{Origin}
use Rattle.dm_ckpt.specs.declared.opening.Choice.{Choice}
use Rattle.dm_ckpt.specs.declared.opening.Choice.TheVariants.{Broken, Used}
use Rattle.dm_ckpt.specs.declared.opening.Start.{Start}
use Rattle.dm_ckpt.specs.declared.opening.Start.TheVariants.{Refused, Begun}
use Rattle.dm_ckpt.specs.Area.{body, Holds, IsDamaged, SameGeneration}
use Rattle.dm_ckpt.specs.Files.{area_file, log_file}
use Rattle.dm_ckpt.specs.State.{InUseIf, IsBehind, StandsFor}
use Rattle.dm_ckpt.specs.Load.{LoadAt, Reading, IsDamagedArea}

-- the area that is read, and the other one
pub record Reads (o : Origin) (own other : List ℕ) : Type 0 where
  pub rows : List (List ℕ)
  pub in_use : InUseIf o.has_area o.index o.generation rows own
  pub size : o.size ≡ length (body rows)
  pub behind : IsBehind o.generation other

abbrev pub ReadsIn : Index → Origin → List ℕ → List ℕ → Type 0
ReadsIn First o first second = Reads o first second
ReadsIn Second o first second = Reads o second first

abbrev pub Chooses : Choice → List ℕ → List ℕ → Type 0
Chooses (Broken First) first second = IsDamaged first ⊎ SameGeneration first second
Chooses (Broken Second) first second = Holds first × IsDamaged second
Chooses (Used o) first second = ReadsIn o.index o first second

abbrev pub size_chosen : Choice → ℕ
size_chosen (Broken i) = 0
size_chosen (Used o) = o.size

-- each crash leaves both areas as they are read
pub record AreasSynced (d : Disk) (component : ℕ) : Type 0 where
  pub first : Only (d.seen (area_file component First)) (d.may_leave (area_file component First))
  pub second : Only (d.seen (area_file component Second)) (d.may_leave (area_file component Second))

-- a load at its beginning
abbrev pub load_at : ℕ → Origin → ℕ → LoadAt
load_at component o end = record {
  component = component;
  index = o.index;
  has_area = o.has_area;
  generation = o.generation;
  row = 17;
  row_end = 17 + o.size;
  place = 0;
  log_end = end;
  file = area_file component o.index;
  last = 0;
}

abbrev pub Starts : Disk → ℕ → Start → Image → Type 0
Starts d component (Refused i) x = IsDamagedArea component (area_file component i) x
Starts d component (Begun o end) x = Reading d (load_at component o end) []

-- what the files stood for they stand for
abbrev pub Means : ℕ → Image → Image → Type 0
Means component old new = (payloads : List (List ℕ)) → StandsFor component payloads old → StandsFor component payloads new

abbrev pub IsInRange : Start → Type 0
IsInRange (Refused i) = Unit {0}
IsInRange (Begun o end) = (17 + o.size ≤ 2 ^ 62) × ((0 < end) × (end ≤ 2 ^ 62))

-- the log is read from its start, if the disk tells of it
abbrev pub LogRead : Disk → ℕ → Start → Type 0
LogRead d component (Refused i) = Unit {0}
LogRead d component (Begun o end) = Tells d (log_file component o.index) → LogReading d (loading_at (log_file component o.index) 0 0 end) []

-- where a load begins no area is damaged
abbrev pub IsSound : ℕ → Start → Image → Type 0
IsSound component (Refused i) x = Unit {0}
IsSound component (Begun o end) x = (f : ℕ) → IsDamagedArea component f x → ⊥
