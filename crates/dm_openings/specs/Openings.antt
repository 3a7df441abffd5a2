-- What was loaded, and the opened states that it stands for.
--
-- As a program begins, the tables of its components are known, and of its volumes as much as their files tell. The content of a
-- bitfile, and what was done before, aren't: they are of the machine's history, which no component keeps. So the loaded state stands
-- for each opened state that has these tables, and knows of the volumes no more than is there.
use Rattle.std.specs.Prelude.{◌≡◌, ◌≤◌, ◌⊎◌, ℕ, List, length}
use Rattle.std.specs.FinMap as map
use Rattle.dm_model.specs.declared.entry.HistoryEntry.{HistoryEntry}
use Rattle.dm_model.specs.declared.entry.Name.{Name}
use Rattle.dm_model.specs.declared.state.Joint.{Joint}
use Rattle.dm_model.specs.Names.{fixed_names}
use Rattle.dm_invariant.specs.Opened.{Opened}
use Rattle.dm_history.specs.Alike.{ForgetsOnly, image_of, library_of}
use Rattle.dm_history.specs.History.{Begun, MadeIn, history}
use Rattle.dm_openings.specs.Every.{every}
use Rattle.dm_spine.specs.Past.{In, Meaning}

-- a state of which the tables and the volumes are what was loaded, and how many workers there are. It need not be opened, nor hold any
-- content of a bitfile. The names that are there from the beginning are few
pub record Loaded : Type 0 where
  pub state : Joint
  pub workers : ℕ
  pub few : length (fixed_names state workers) ≤ 32768

-- An opening of a loaded state: an opened state in which the daemon and each library server are as they were loaded, with the same files
-- faithful; and the volumes are those that were loaded, of the same sizes, and what is known of one was loaded
pub record IsOpening (loaded j : Joint) : Type 0 where
  pub opened : Opened j
  pub daemon : loaded.daemon ≡ j.daemon
  pub libraries : (g : ℕ) → library_of (map.get loaded.sides g) ≡ library_of (map.get j.sides g)
  pub volumes : (g : ℕ) (vsn : List ℕ) → ForgetsOnly (image_of vsn (map.get loaded.sides g)) (image_of vsn (map.get j.sides g))

-- a history may begin so
pub record BeginsAs (l : Loaded) (begun : Begun) : Type 0 where
  pub opening : IsOpening l.state begun.opened
  pub workers : begun.workers ≡ l.workers

-- the names that are there from the beginning
abbrev pub names_loaded : Loaded → List Name
names_loaded l = fixed_names l.state l.workers

-- the name is there from the beginning, or an entry of the past made it
abbrev pub RootedIn : Loaded → Name → List (ℕ × HistoryEntry) → Type 0
RootedIn l x xs = In x (names_loaded l) ⊎ MadeIn x xs

-- an entry may come where it may in the history of each opening
abbrev pub openings : Meaning Loaded Name HistoryEntry
openings = every BeginsAs names_loaded history
