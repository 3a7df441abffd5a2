-- A zone: a header, and the chunks of a piece of a bitfile.
use Rattle.std.specs.Prelude.{ℕ, zero, suc, ◌+◌, ◌*◌, Option, Some, None, List, [], ◌∷◌, ◌++◌, length, take, drop, codes, replicate, if◌then◌else◌}
use Rattle.std.specs.Int.{w32, w64, w128, to_be_bytes, div_ceil}
use Rattle.std.specs.List.{flat_map}
use Rattle.sha2.specs.Sha256.{sha256}
use Rattle.dm_rules.specs.Version.{has_sum, chunk_header}

-- some bytes of a bitfile: whose they are, its length, their place in it, and the sum that their header ends with, if
-- it has one
pub record SpelledChunk : Type 0 where
  pub bfid : ℕ
  pub total : ℕ
  pub offset : ℕ
  pub sum : Option (List ℕ)
  pub bytes : List ℕ

-- the length of a zone's header
abbrev pub zone_header : ℕ
zone_header = 32

-- the fields of a chunk's header that both versions have
unfoldable pub chunk_front : ℕ → ℕ → ℕ → ℕ → List ℕ
chunk_front bfid offset count total =
    codes "CHNK" ++ replicate 4 0 ++ to_be_bytes w128 bfid ++ to_be_bytes w64 offset ++ to_be_bytes w64 count
    ++ to_be_bytes w64 total

-- the sum that the header of a chunk of these bytes has on a volume of this version
abbrev pub chunk_sum : ℕ → List ℕ → Option (List ℕ)
chunk_sum version bytes = if has_sum version then Some (sha256 bytes) else None

-- what stands in the header for it
abbrev pub sum_text : Option (List ℕ) → List ℕ
sum_text None = []
sum_text (Some sum) = sum

-- a chunk, which is its header and its bytes
abbrev pub chunk_text : SpelledChunk → List ℕ
chunk_text c = chunk_front c.bfid c.offset (length c.bytes) c.total ++ sum_text c.sum ++ c.bytes

-- the header of a zone of so many chunks, with the length of the whole zone
unfoldable pub zone_front : ℕ → ℕ → ℕ → List ℕ
zone_front epoch count whole =
    codes "ZONE" ++ to_be_bytes w32 count ++ to_be_bytes w64 epoch ++ to_be_bytes w64 whole ++ replicate 8 0

-- a zone, which is its header and its chunks
abbrev pub zone : ℕ → List SpelledChunk → List ℕ
zone epoch chunks =
    zone_front epoch (length chunks) (zone_header + length (flat_map chunk_text chunks)) ++ flat_map chunk_text chunks

-- how many chunks of `chunk` bytes hold n bytes, the last of them what is left
abbrev pub chunk_count : ℕ → ℕ → ℕ
chunk_count chunk n = div_ceil n chunk

-- the bytes, which stand at `offset`, cut into `count` chunks of `chunk` bytes, the last of them what is left
unfoldable pub chunk_split_into : ℕ → ℕ → ℕ → ℕ → ℕ → List ℕ → ℕ → List SpelledChunk
chunk_split_into version zero bfid total offset bytes chunk = []
chunk_split_into version (suc count) bfid total offset bytes chunk =
    let front = take chunk bytes in
    record { bfid = bfid; total = total; offset = offset; sum = chunk_sum version front; bytes = front }
    ∷ chunk_split_into version count bfid total (offset + length front) (drop chunk bytes) chunk

-- the bytes cut into chunks for a volume of this version
abbrev pub chunk_split : ℕ → ℕ → ℕ → ℕ → List ℕ → ℕ → List SpelledChunk
chunk_split version bfid total offset bytes chunk = chunk_split_into version (chunk_count chunk (length bytes)) bfid total offset bytes chunk

-- the zone of the bytes that stand at `offset` of a bitfile, for a volume of this version and epoch
abbrev pub zone_of : ℕ → ℕ → ℕ → ℕ → ℕ → List ℕ → ℕ → List ℕ
zone_of version epoch bfid total offset bytes chunk = zone epoch (chunk_split version bfid total offset bytes chunk)

-- the length of a zone of n bytes
abbrev pub zone_length : ℕ → ℕ → ℕ → ℕ
zone_length version chunk n = zone_header + chunk_header version * chunk_count chunk n + n

-- what a chunk of n bytes weighs: the length of a zone of it alone
abbrev pub weight : ℕ → ℕ → ℕ
weight version n = zone_header + chunk_header version + n
