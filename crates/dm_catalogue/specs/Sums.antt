-- What lies on each volume, and what is kept of it.
use Rattle.std.specs.Prelude.{◌≡◌, ℕ, ◌+◌, ◌-◌, ◌^◌, ◌<◌, Bool, cond, Option, None, Some, IsSome, List, [], ◌∷◌, min, length, slice_get, slice_set, nat_lt}
use Rattle.std.specs.List.{AllByRecursion}
use Rattle.std.specs.FinMap as map
use Rattle.dm_base.specs.declared.volume.Chunk.{Chunk}
use Rattle.dm_durable.specs.declared.group.BitfileRow.{BitfileRow}
use Rattle.dm_durable.specs.Group.{chunk_at, is_on}
use Rattle.dm_durable.specs.GroupConditions.{Joins}
use Rattle.dm_durable.specs.Tables.{ByName, ByNumber}
use Rattle.dm_durable.specs.Volumes.{live_on}
use Rattle.dm_places.specs.Queues.{count_in}
use Rattle.dm_tables.specs.Rows.{adjust}
use Rattle.dm_tables.specs.Totals.{total}
use Rattle.dm_catalogue.specs.declared.homes.Live.{Live}

-- ---- one bitfile

abbrev pub by_offset : Chunk → ℕ × Chunk
by_offset c = (c.offset, c)

-- the chunk that begins at the offset of a bitfile, where that is there
abbrev pub chunk_in : ℕ → Option BitfileRow → Option Chunk
chunk_in offset None = None
chunk_in offset (Some r) = chunk_at offset r.chunks

-- the chunk at this place of a list, which has so many, is this one
abbrev pub put_at : ℕ → Chunk → List Chunk → List Chunk
put_at at c cs = cond (nat_lt at (length cs)) (slice_set cs at c) cs

abbrev pub with_chunk_at : ℕ → Chunk → BitfileRow → BitfileRow
with_chunk_at at c r = record r { chunks = put_at at c r.chunks }

-- the chunk is the one that begins at the offset, and has this place among those of its bitfile
pub record Finds (row : Option BitfileRow) (offset at : ℕ) (c : Chunk) : Type 0 where
  pub bitfile : BitfileRow
  pub is : row ≡ Some bitfile
  pub there : slice_get bitfile.chunks at ≡ Some c
  pub begins : c.offset ≡ offset
  pub first : chunk_at offset bitfile.chunks ≡ Some c

-- the chunks are those of the whole bitfile, whose length 64 bits hold
pub record IsWhole (r : BitfileRow) : Type 0 where
  pub joins : Joins 0 r.chunks r.len
  pub small : r.len < 2 ^ 64

-- a chunk that is put in the place of the one that begins where it does has the same length
abbrev pub FitsInPlace : Option Chunk → Chunk → Type 0
FitsInPlace None to = Unit {0}
FitsInPlace (Some c) to = to.len ≡ c.len

-- ---- sums over bitfiles

-- how many of all chunks do
abbrev pub count_on : ByNumber BitfileRow → List ℕ → ℕ
count_on bitfiles vsn = total (λ row. count_in vsn row.chunks) bitfiles

-- ---- what is kept of them

abbrev pub chunks_at : Option Live → ℕ
chunks_at None = 0
chunks_at (Some l) = l.chunks

abbrev pub bytes_at : Option Live → ℕ
bytes_at None = 0
bytes_at (Some l) = l.bytes

-- what is kept of each volume are the sums over all bitfiles; where nothing is kept, nothing lies there
pub record Summed (homes : ByName Live) (bitfiles : ByNumber BitfileRow) : Type 0 where
  pub chunks : (vsn : List ℕ) → chunks_at (map.get homes vsn) ≡ count_on bitfiles vsn
  pub bytes : (vsn : List ℕ) → bytes_at (map.get homes vsn) ≡ live_on bitfiles vsn

-- something is kept of the volumes of these chunks
abbrev pub Known : ByName Live → List Chunk → Type 0
Known homes chunks = AllByRecursion (λ c. IsSome (map.get homes c.vsn.0)) chunks

-- each volume of which something is kept in the first has something in the second
abbrev pub KeepsHomes : ByName Live → ByName Live → Type 0
KeepsHomes old new = (vsn : List ℕ) → IsSome (map.get old vsn) → IsSome (map.get new vsn)

-- what is kept is the same, but for volumes on which nothing lies
pub record Same (old new : ByName Live) : Type 0 where
  pub chunks : (vsn : List ℕ) → chunks_at (map.get new vsn) ≡ chunks_at (map.get old vsn)
  pub bytes : (vsn : List ℕ) → bytes_at (map.get new vsn) ≡ bytes_at (map.get old vsn)
  pub kept : KeepsHomes old new

-- a chunk of this length comes, and goes
abbrev pub with_more : ℕ → Live → Live
with_more len l = record { chunks = min (l.chunks + 1) (2 ^ 128 - 1); bytes = min (l.bytes + len) (2 ^ 128 - 1) }

abbrev pub with_fewer : ℕ → Live → Live
with_fewer len l = record { chunks = l.chunks - 1; bytes = l.bytes - len }

-- each of these chunks does
unfoldable pub with_all : List Chunk → ByName Live → ByName Live
with_all [] homes = homes
with_all (c ∷ cs) homes = with_all cs (adjust homes c.vsn.0 (with_more c.len))

unfoldable pub without_all : List Chunk → ByName Live → ByName Live
without_all [] homes = homes
without_all (c ∷ cs) homes = without_all cs (adjust homes c.vsn.0 (with_fewer c.len))
