-- The record of a step that is prepared, and what the tables keep for it.
use Rattle.std.specs.Prelude.{◌≡◌, ℕ, ◌+◌, ◌-◌, ◌<◌, ◌≤◌, List, [], ◌∷◌}
use Rattle.std.specs.FinMap as map
use Rattle.dm_base.specs.declared.volume.Chunk.{Chunk}
use Rattle.dm_catalogue.specs.Sums.{FitsInPlace, KeepsHomes, Known, chunk_in}
use Rattle.dm_durable.specs.declared.group.BitfileRow.{BitfileRow}
use Rattle.dm_durable.specs.declared.group.GroupRecord.{GroupRecord}
use Rattle.dm_durable.specs.declared.group.GroupStep.{GroupStep}
use Rattle.dm_durable.specs.declared.group.GroupStep.TheVariants as step
use Rattle.dm_durable.specs.Group.{new_volume}
use Rattle.dm_durable.specs.GroupConditions.{Joins}
use Rattle.dm_durable.specs.Tables.{ByNumber}
use Rattle.dm_places.specs.Queues.{HasPlaces, KeepsFewer, KeepsMore, UsesPlaces}
use Rattle.dm_group_tables.specs.declared.prepared.Prepared.{Prepared}
use Rattle.dm_group_tables.specs.declared.prepared.Step.{Step}
use Rattle.dm_group_tables.specs.declared.prepared.Step.TheVariants.{Volume, Commit, Delete, Move, Free, Reuse}
use Rattle.dm_group_tables.specs.declared.tables.Tables.{Tables}

abbrev pub step_of : Step → GroupStep
step_of (Volume row slot version size) = step.Volume row.value.0 slot version size
step_of (Commit row) = step.Commit (record { 0 = row.value.0 }) row.value.1.len row.value.1.chunks
step_of (Delete b) = step.Delete b
step_of (Move b from to) = step.Move b from to
step_of (Free vsn) = step.Free vsn
step_of (Reuse vsn epoch version) = step.Reuse vsn epoch version

-- the record of a step that is prepared
abbrev pub record_of : Prepared → GroupRecord
record_of p = record { time = p.time; step = step_of p.step }

-- after the step the chunks of each bitfile still join from 0 to its length, where they did before
abbrev pub KeepsWhole : ByNumber BitfileRow → GroupStep → Type 0
KeepsWhole bitfiles (step.Volume vsn slot version size) = Unit {0}
KeepsWhole bitfiles (step.Commit b len chunks) = Joins 0 chunks len
KeepsWhole bitfiles (step.Delete b) = Unit {0}
KeepsWhole bitfiles (step.Move b from to) = FitsInPlace (chunk_in to.offset (map.get bitfiles b.0)) to
KeepsWhole bitfiles (step.Free vsn) = Unit {0}
KeepsWhole bitfiles (step.Reuse vsn epoch version) = Unit {0}

-- the tables keep places for the step, and what was made for it is right for them
abbrev pub IsReadyFor : Tables → Step → Type 0
IsReadyFor m (Volume row slot version size) = (0 < m.volumes.rows.spare) × (row.value.1 ≡ new_volume slot version size)
IsReadyFor m (Commit row) =
    (0 < m.catalogue.promised) × Joins 0 row.value.1.chunks row.value.1.len × Known m.catalogue.homes.rows row.value.1.chunks
    × HasPlaces m.catalogue.queues.rows.rows row.value.1.chunks
IsReadyFor m (Delete b) = Unit {0}
IsReadyFor m (Move b from to) =
    FitsInPlace (chunk_in to.offset (map.get m.catalogue.rows.rows b.0)) to × Known m.catalogue.homes.rows (to ∷ [])
    × HasPlaces m.catalogue.queues.rows.rows (to ∷ [])
IsReadyFor m (Free vsn) = Unit {0}
IsReadyFor m (Reuse vsn epoch version) = Unit {0}

abbrev pub IsReady : Tables → Prepared → Type 0
IsReady m p = IsReadyFor m p.step

-- ---- what a step that is prepared has of the room that the tables keep

-- places for volumes, and for bitfiles
abbrev pub volumes_of : Step → ℕ
volumes_of (Volume row slot version size) = 1
volumes_of (Commit row) = 0
volumes_of (Delete b) = 0
volumes_of (Move b from to) = 0
volumes_of (Free vsn) = 0
volumes_of (Reuse vsn epoch version) = 0

abbrev pub bitfiles_of : Step → ℕ
bitfiles_of (Volume row slot version size) = 0
bitfiles_of (Commit row) = 1
bitfiles_of (Delete b) = 0
bitfiles_of (Move b from to) = 0
bitfiles_of (Free vsn) = 0
bitfiles_of (Reuse vsn epoch version) = 0

-- the chunks of which each has a place in the queue of its volume
abbrev pub chunks_of : Step → List Chunk
chunks_of (Volume row slot version size) = []
chunks_of (Commit row) = row.value.1.chunks
chunks_of (Delete b) = []
chunks_of (Move b from to) = to ∷ []
chunks_of (Free vsn) = []
chunks_of (Reuse vsn epoch version) = []

-- room is made for the step beside what there was
pub record MakesRoom (old : Tables) (s : Step) (new : Tables) : Type 0 where
  pub volumes : old.volumes.rows.spare ≤ new.volumes.rows.spare
  pub bitfiles : new.catalogue.promised ≡ old.catalogue.promised + bitfiles_of s
  pub chunks : KeepsMore old.catalogue.queues.rows.rows (chunks_of s) new.catalogue.queues.rows.rows
  pub homes : KeepsHomes old.catalogue.homes.rows new.catalogue.homes.rows

-- no more is taken of the room than the step has
pub record UsesRoom (old : Tables) (s : Step) (new : Tables) : Type 0 where
  pub volumes : old.volumes.rows.spare ≤ new.volumes.rows.spare + volumes_of s
  pub bitfiles : old.catalogue.promised ≤ new.catalogue.promised + bitfiles_of s
  pub chunks : UsesPlaces old.catalogue.queues.rows.rows (chunks_of s) new.catalogue.queues.rows.rows
  pub homes : KeepsHomes old.catalogue.homes.rows new.catalogue.homes.rows

-- the room is what it was, but for volumes, of which it may be more
pub record KeepsRoom (old new : Tables) : Type 0 where
  pub volumes : old.volumes.rows.spare ≤ new.volumes.rows.spare
  pub bitfiles : new.catalogue.promised ≡ old.catalogue.promised
  pub chunks : KeepsMore old.catalogue.queues.rows.rows [] new.catalogue.queues.rows.rows
  pub homes : KeepsHomes old.catalogue.homes.rows new.catalogue.homes.rows

-- what the step had is given back
pub record GivesBack (old : Tables) (s : Step) (new : Tables) : Type 0 where
  pub volumes : old.volumes.rows.spare ≡ new.volumes.rows.spare
  pub bitfiles : new.catalogue.promised ≡ old.catalogue.promised - bitfiles_of s
  pub chunks : KeepsFewer old.catalogue.queues.rows.rows (chunks_of s) new.catalogue.queues.rows.rows
  pub homes : KeepsHomes old.catalogue.homes.rows new.catalogue.homes.rows
