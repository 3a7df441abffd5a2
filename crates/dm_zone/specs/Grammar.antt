-- The chunks and the zones of a volume, by its version.
use Rattle.std.specs.Prelude.{◌≡◌, ℕ, ◌+◌, ◌^◌, ◌<◌, ◌≤◌, List, length}
use Rattle.std.specs.List.{flat_map, AllByRecursion}
use Rattle.dm_rules.specs.Zone.{SpelledChunk, chunk_sum, chunk_text, zone_header}

-- one byte or more within its bitfile, numbers that have their fields, and the sum that the version wants
pub record IsChunk (version : ℕ) (c : SpelledChunk) : Type 0 where
  pub bfid : c.bfid < 2 ^ 128
  pub total : c.total < 2 ^ 64
  pub some : 0 < length c.bytes
  pub within : c.offset + length c.bytes ≤ c.total
  pub sum_is : c.sum ≡ chunk_sum version c.bytes

-- one chunk or more, and numbers that have their fields
pub record IsZone (version epoch : ℕ) (chunks : List SpelledChunk) : Type 0 where
  pub epoch_fits : epoch < 2 ^ 64
  pub some : 0 < length chunks
  pub count_fits : length chunks < 2 ^ 32
  pub each : AllByRecursion (IsChunk version) chunks
  pub whole_fits : zone_header + length (flat_map chunk_text chunks) < 2 ^ 64
