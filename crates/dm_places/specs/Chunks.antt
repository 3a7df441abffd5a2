-- The spots of chunks.
use Rattle.std.specs.Prelude.{◌≡◌, ℕ, ◌<◌, true, List, [], ◌∷◌, All, Contains}
use Rattle.dm_base.specs.declared.volume.Chunk.{Chunk}
use Rattle.dm_durable.specs.Group.{is_on}
use Rattle.dm_durable.specs.Tables.{ByNumber}
use Rattle.dm_durable.specs.declared.group.BitfileRow.{BitfileRow}
use Rattle.dm_tables.specs.Rows.{EachRow}
use Rattle.dm_places.specs.declared.spot.Spot.{Spot}

-- the spot of a bitfile's chunk
abbrev pub spot_of : ℕ → Chunk → Spot
spot_of b c = record { place = c.place; bfid = record { 0 = b }; offset = c.offset }

-- each of the chunks begins in front of all that come after it
abbrev pub Ascends : List Chunk → Type 0
Ascends [] = Unit {0}
Ascends (c ∷ cs) = All (λ d. c.offset < d.offset) cs × Ascends cs

-- P holds of the spot of each chunk on the volume
abbrev pub EachSpotOn : ByNumber BitfileRow → List ℕ → (Spot → Type 0) → Type 0
EachSpotOn bitfiles vsn P = EachRow bitfiles (λ b row. (c : Chunk) → Contains row.chunks c → is_on vsn c ≡ true → P (spot_of b c))
