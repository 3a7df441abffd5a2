-- The chunk that a merge of a volume moves next.
use Rattle.std.specs.Prelude.{◌≡◌, ℕ, Some, List, Contains, true}
use Rattle.std.specs.FinMap as map
use Rattle.dm_durable.specs.Group.{is_on}
use Rattle.dm_durable.specs.Tables.{ByNumber}
use Rattle.dm_durable.specs.Volumes as volumes
use Rattle.dm_durable.specs.declared.group.BitfileRow.{BitfileRow}
use Rattle.dm_places.specs.Chunks.{spot_of}
use Rattle.dm_places.specs.declared.spot.Spot.{Spot}
use Rattle.dm_catalogue.specs.declared.chunks.LiveChunk.{LiveChunk}

abbrev pub live_of : LiveChunk → volumes.LiveChunk
live_of l = record { bfid = l.bfid; total = l.total; chunk = l.chunk }

-- the chunk is one of a bitfile, and lies at the spot of the volume
pub record IsThere (bitfiles : ByNumber BitfileRow) (vsn : List ℕ) (s : Spot) (l : LiveChunk) : Type 0 where
  pub bitfile : BitfileRow
  pub is : map.get bitfiles l.bfid.0 ≡ Some bitfile
  pub total : l.total ≡ bitfile.len
  pub among : Contains bitfile.chunks l.chunk
  pub on : is_on vsn l.chunk ≡ true
  pub spot : s ≡ spot_of l.bfid.0 l.chunk
