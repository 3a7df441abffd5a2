-- The invariant, of the places of volumes: none is of two chunks or zones.
--
-- Who has a place is an owner: a chunk of a stored bitfile, or a zone in hand: one of a reservation, that of a chunk that is
-- moved, or one that a record in doubt fills. Each is named so that two owners are one exactly where they are the same thing;
-- so a commit and a move that are journalled only rename the owner of their places, and once they land give up the headers.
use Rattle.std.specs.Prelude.{◌≡◌, ◌≤◌, ◌<◌, ◌+◌, ℕ, Option, None, Some, List}
use Rattle.std.specs.FinMap as map
use Rattle.dm_base.specs.declared.volume.Chunk.{Chunk}
use Rattle.dm_base.specs.declared.volume.Piece.{Piece}
use Rattle.dm_rules.specs.Plan.{zone_end}
use Rattle.dm_rules.specs.Zone.{weight}
use Rattle.dm_durable.specs.declared.group.BitfileRow.{BitfileRow}
use Rattle.dm_durable.specs.declared.group.GroupRecord.{GroupRecord}
use Rattle.dm_durable.specs.declared.group.GroupStep.{GroupStep}
use Rattle.dm_durable.specs.declared.group.GroupStep.TheVariants.{Volume, Commit, Delete, Move, Free, Reuse}
use Rattle.dm_durable.specs.Tables.{ByNumber}
use Rattle.dm_model.specs.declared.state.Moving.{Moving}
use Rattle.dm_model.specs.declared.state.Reserved.{Reserved}
use Rattle.dm_invariant.specs.Among.{IsAmong}

-- ---- what covers a place

-- a place is one of a chunk's on a volume
pub record ChunkCovers (c : Chunk) (vsn : List ℕ) (place : ℕ) : Type 0 where
  pub same : c.vsn.0 ≡ vsn
  pub low : c.place ≤ place
  pub high : place < c.place + c.len

-- a place is one of the zone of a piece
pub record PieceCovers (chunk : ℕ) (p : Piece) (vsn : List ℕ) (place : ℕ) : Type 0 where
  pub same : p.vsn.0 ≡ vsn
  pub low : p.zone ≤ place
  pub high : place < zone_end chunk p

-- a place is one of the zone of a chunk that is moved to a volume of this version
pub record TargetCovers (version : ℕ) (c : Chunk) (vsn : List ℕ) (place : ℕ) : Type 0 where
  pub same : c.vsn.0 ≡ vsn
  pub low : c.zone ≤ place
  pub high : place < c.zone + weight version c.len

-- a place is one of the zone that a chunk names, from the zone's header to the chunk's last byte
pub record ZoneCovers (c : Chunk) (vsn : List ℕ) (place : ℕ) : Type 0 where
  pub same : c.vsn.0 ≡ vsn
  pub low : c.zone ≤ place
  pub high : place < c.place + c.len

-- no place is of two of the chunks
abbrev pub ChunksApart : List Chunk → Type 0
ChunksApart chunks =
    (c d : Chunk) (vsn : List ℕ) (place : ℕ) → IsAmong c chunks → IsAmong d chunks → ChunkCovers c vsn place → ChunkCovers d vsn place
    → c.offset ≡ d.offset

-- ---- owners

-- a zone that a record in doubt fills is known by its place, the others by what they are of
pub data Owner : Type 0 where
  Live : (bitfile offset : ℕ) → Owner
  Reserving : (reservation offset : ℕ) → Owner
  Target : (job : ℕ) → Owner
  Doubted : (zone : ℕ) → Owner

pub record HasLive (bitfiles : ByNumber BitfileRow) (b offset : ℕ) (vsn : List ℕ) (place : ℕ) : Type 0 where
  pub row : BitfileRow
  pub is : map.get bitfiles b ≡ Some row
  pub chunk : Chunk
  pub among : IsAmong chunk row.chunks
  pub at : chunk.offset ≡ offset
  pub covers : ChunkCovers chunk vsn place

pub record HasReserving (reservations : ByNumber Reserved) (n offset : ℕ) (vsn : List ℕ) (place : ℕ) : Type 0 where
  pub reserved : Reserved
  pub is : map.get reservations n ≡ Some reserved
  pub piece : Piece
  pub among : IsAmong piece reserved.pieces
  pub at : piece.offset ≡ offset
  pub covers : PieceCovers reserved.chunk piece vsn place

pub record HasTarget (moves : ByNumber Moving) (job : ℕ) (vsn : List ℕ) (place : ℕ) : Type 0 where
  pub moving : Moving
  pub is : map.get moves job ≡ Some moving
  pub covers : TargetCovers moving.version moving.to vsn place

-- the chunks that a step puts on volumes
abbrev pub IsPut : Chunk → GroupStep → Type 0
IsPut c (Volume vsn slot version size) = ⊥
IsPut c (Commit b len chunks) = IsAmong c chunks
IsPut c (Delete b) = ⊥
IsPut c (Move b from to) = c ≡ to
IsPut c (Free vsn) = ⊥
IsPut c (Reuse vsn epoch version) = ⊥

abbrev pub IsDoubted : Chunk → Option GroupRecord → Type 0
IsDoubted c None = ⊥
IsDoubted c (Some r) = IsPut c r.step

-- the zone reaches from its header to the end of the last of the record's chunks that name it
pub record HasDoubted (doubt : Option GroupRecord) (zone : ℕ) (vsn : List ℕ) (place : ℕ) : Type 0 where
  pub chunk : Chunk
  pub among : IsDoubted chunk doubt
  pub at : chunk.zone ≡ zone
  pub covers : ZoneCovers chunk vsn place

abbrev pub HasPlace : ByNumber BitfileRow → ByNumber Reserved → ByNumber Moving → Option GroupRecord → Owner → List ℕ → ℕ → Type 0
HasPlace bitfiles reservations moves doubt (Live b offset) vsn place = HasLive bitfiles b offset vsn place
HasPlace bitfiles reservations moves doubt (Reserving n offset) vsn place = HasReserving reservations n offset vsn place
HasPlace bitfiles reservations moves doubt (Target job) vsn place = HasTarget moves job vsn place
HasPlace bitfiles reservations moves doubt (Doubted zone) vsn place = HasDoubted doubt zone vsn place

-- no place is of two: neither of two chunks, nor of a chunk and a zone in hand, nor of two zones in hand
abbrev pub PlacesKept : ByNumber BitfileRow → ByNumber Reserved → ByNumber Moving → Option GroupRecord → Type 0
PlacesKept bitfiles reservations moves doubt =
    (o p : Owner) (vsn : List ℕ) (place : ℕ) → HasPlace bitfiles reservations moves doubt o vsn place → HasPlace bitfiles reservations moves doubt p vsn place → o ≡ p
