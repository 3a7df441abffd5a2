-- How a bitfile is laid out: on which volumes its pieces are to stand, and where the chunks of a piece.
use Rattle.std.specs.Prelude.{ℕ, zero, suc, ◌+◌, ◌-◌, None, List, [], ◌∷◌, nat_eq, if◌then◌else◌}
use Rattle.std.specs.List.{flat_map}
use Rattle.dm_base.specs.declared.volume.Piece.{Piece}
use Rattle.dm_base.specs.declared.volume.Chunk.{Chunk}
use Rattle.dm_rules.specs.declared.space.Space.{Space}
use Rattle.dm_rules.specs.Numbers.{lesser}
use Rattle.dm_rules.specs.Version.{chunk_header}
use Rattle.dm_rules.specs.Zone.{zone_header, zone_length, chunk_count}

-- how many bytes the volumes can hold together
abbrev pub rooms : List Space → ℕ
rooms [] = 0
rooms (s ∷ rest) = s.room + rooms rest

-- the pieces of the `left` bytes that stand at `offset` of a bitfile: each volume in turn takes as much as it
-- has room for, or what is left; one that would take nothing is left out
unfoldable pub pieces_of : List Space → ℕ → ℕ → List Piece
pieces_of [] offset left = []
pieces_of (s ∷ rest) offset left =
    let taken = lesser s.room left in
    if nat_eq taken 0 then pieces_of rest offset left
    else record { vsn = s.vsn; version = s.version; zone = s.tip; offset = offset; len = taken } ∷ pieces_of rest (offset + taken) (left - taken)

-- the chunks of a zone of one piece, on a volume of this version: `count` of them, from the bytes at `offset` on, of
-- which `left` are left, where the header of the first one stands at `place`. What their bytes are isn't known yet, and
-- so they have no sums
unfoldable pub chunks_at : ℕ → ℕ → ℕ → Piece → ℕ → ℕ → ℕ → List Chunk
chunks_at version chunk zero piece offset left place = []
chunks_at version chunk (suc count) piece offset left place =
    let taken = lesser chunk left in
    record { offset = offset; len = taken; vsn = piece.vsn; zone = piece.zone; place = place + chunk_header version; sum = None }
    ∷ chunks_at version chunk count piece (offset + taken) (left - taken) (place + chunk_header version + taken)

-- the chunks of a piece, which is one zone, cut into chunks of `chunk` bytes
abbrev pub chunks_of : ℕ → Piece → List Chunk
chunks_of chunk piece =
    chunks_at piece.version chunk (chunk_count chunk piece.len) piece piece.offset piece.len (piece.zone + zone_header)

-- the chunks of all pieces
abbrev pub all_chunks : ℕ → List Piece → List Chunk
all_chunks chunk pieces = flat_map (chunks_of chunk) pieces

-- the place behind the zone of a piece
abbrev pub zone_end : ℕ → Piece → ℕ
zone_end chunk piece = piece.zone + zone_length piece.version chunk piece.len
