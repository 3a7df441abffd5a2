-- What users see goes along with the steps of the machine.

-- the namespace that tables and contents show
pub mod FilesShown
pub mod DumpsShown
pub mod NamespaceShown
pub mod RecordsShown
-- parts of a plan, calls, and events
pub mod PlansShown
pub mod CallsShown
pub mod EventsShown
pub mod RunsShown
-- reads
pub mod FilesRead
pub mod PathsAsked
pub mod PathsAlong
pub mod ChunksRead
-- what is there, and what is dead
pub mod BitfilesThere
pub mod VolumesDead
pub mod ChunksTold
