-- The bytes of a copy, as they stand on the volumes of a group.
use Rattle.std.specs.Prelude.{◌≡◌, ℕ, ◌+◌, cond, ◌&&◌, Option, None, Some, List, [], ◌∷◌, ◌++◌, nat_eq, nat_lt}
use Rattle.std.specs.FinMap as map
use Rattle.dm_base.specs.declared.volume.Chunk.{Chunk}
use Rattle.dm_rules.specs.Known.{Known, known_bytes}
use Rattle.dm_durable.specs.Tables.{ByName}
use Rattle.dm_durable.specs.declared.group.BitfileRow.{BitfileRow}
use Rattle.dm_model.specs.declared.state.Image.{Image}
use Rattle.dm_model.specs.declared.state.Side.{Side}
use Rattle.dm_model.specs.GroupCalls.{part_of}
use Rattle.sha2.specs.Sha256.{sha256}

-- what is known of a volume; nothing of one that isn't there
abbrev pub known_of : Option Image → Known
known_of None = map.empty
known_of (Some i) = i.known

abbrev pub known_on : ByName Image → List ℕ → Known
known_on images vsn = known_of (map.get images vsn)

-- bytes and bytes behind them, where both are known
abbrev pub bytes_and : Option (List ℕ) → Option (List ℕ) → Option (List ℕ)
bytes_and None rest = None
bytes_and (Some bytes) None = None
bytes_and (Some bytes) (Some rest) = Some (bytes ++ rest)

-- the bytes of the chunks, joined, from one offset of the bitfile to its end: where each chunk has bytes and begins where
-- the one before ends, the last one ends at the end, and every byte is known
abbrev pub joined_from : ByName Image → ℕ → ℕ → List Chunk → Option (List ℕ)
joined_from images from end [] = cond (nat_eq from end) (Some []) None
joined_from images from end (c ∷ cs) =
    cond (nat_eq c.offset from && nat_lt 0 c.len)
    (bytes_and (known_bytes (known_on images c.vsn.0) c.place c.len) (joined_from images (from + c.len) end cs))
    None

abbrev pub assembled_bytes_of : ByName Image → Option BitfileRow → Option (List ℕ)
assembled_bytes_of images None = None
assembled_bytes_of images (Some row) = joined_from images 0 row.len row.chunks

-- the copy of a bitfile that a group has
abbrev pub assembled_bytes : Side → ℕ → Option (List ℕ)
assembled_bytes s b = assembled_bytes_of s.images (map.get s.group.tables.bitfiles b)

abbrev pub assembled_bytes_in : Option Side → ℕ → Option (List ℕ)
assembled_bytes_in None b = None
assembled_bytes_in (Some s) b = assembled_bytes s b

-- a chunk's bytes are known and are its part of the bitfile
abbrev pub ChunkKnown : ByName Image → List ℕ → Chunk → Type 0
ChunkKnown images bytes c = known_bytes (known_on images c.vsn.0) c.place c.len ≡ Some (part_of bytes c.offset c.len)

-- a chunk's sum, where it has one, is the SHA-256 of its part of the bitfile
abbrev pub IsSumOf : List ℕ → Option (List ℕ) → Type 0
IsSumOf part None = Unit {0}
IsSumOf part (Some sum) = sum ≡ sha256 part

abbrev pub SumRight : List ℕ → Chunk → Type 0
SumRight bytes c = IsSumOf (part_of bytes c.offset c.len) c.sum
