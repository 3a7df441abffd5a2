-- What is read of bytes: their one zone, or the place of their first wrong field.
use Rattle.std.specs.Prelude.{◌≡◌, ◌≢◌, ◌⊎◌, ℕ, ◌+◌, ◌^◌, ◌<◌, List, [], ◌∷◌, ◌++◌, length, take, drop}
use Rattle.std.specs.Int.{w32, w64, w128}
use Rattle.std.specs.List.{flat_map, AllByRecursion}
use Rattle.dm_rules.specs.Version.{chunk_header}
use Rattle.dm_rules.specs.Zone.{SpelledChunk, chunk_sum, chunk_text, zone, zone_front, zone_header}
use Rattle.dm_zone.specs.declared.contents.ZoneChunk.{ZoneChunk}
use Rattle.dm_zone.specs.Grammar.{IsChunk, IsZone}
use Rattle.dm_zone.specs.Fields.{FirstWrong, chunk_bytes, chunk_fields, zone_fields, number_at}

-- what is told of a chunk whose header stands at `place`
abbrev pub entry : ℕ → ℕ → SpelledChunk → ZoneChunk
entry version place c =
    record { bfid = record { 0 = c.bfid }; total = c.total; offset = c.offset; at = place + chunk_header version; len = length c.bytes; sum = c.sum }

-- what is told of chunks that stand one behind the other from `place` on
abbrev pub entries : ℕ → ℕ → List SpelledChunk → List ZoneChunk
entries version place [] = []
entries version place (c ∷ cs) = entry version place c ∷ entries version (place + length (chunk_text c)) cs

-- each entry says where the bytes of its chunk stand
abbrev pub Stand : List ℕ → List ZoneChunk → List SpelledChunk → Type 0
Stand bytes [] [] = Unit {0}
Stand bytes [] (c ∷ cs) = ⊥
Stand bytes (e ∷ es) [] = ⊥
Stand bytes (e ∷ es) (c ∷ cs) = (take e.len (drop e.at bytes) ≡ c.bytes) × Stand bytes es cs

-- the bytes are the zone of these chunks, and the entries tell of them
pub record Spells (version : ℕ) (bytes : List ℕ) (epoch : ℕ) (told : List ZoneChunk) (chunks : List SpelledChunk) : Type 0 where
  pub spelled : bytes ≡ zone epoch chunks
  pub is_zone : IsZone version epoch chunks
  pub told_is : told ≡ entries version zone_header chunks
  pub stand : Stand bytes told chunks

-- the bytes begin with a right header of these numbers and with these chunks; then comes `rest`
pub record Begins (version : ℕ) (bytes : List ℕ) (epoch count whole : ℕ) (chunks : List SpelledChunk) (rest : List ℕ) : Type 0 where
  pub spelled : bytes ≡ zone_front epoch count whole ++ (flat_map chunk_text chunks ++ rest)
  pub epoch_fits : epoch < 2 ^ 64
  pub some : 0 < count
  pub count_fits : count < 2 ^ 32
  pub whole_fits : whole < 2 ^ 64
  pub each : AllByRecursion (IsChunk version) chunks

-- a field of the next chunk is wrong
pub record WrongInChunk (version count : ℕ) (chunks : List SpelledChunk) (rest : List ℕ) (place : ℕ) : Type 0 where
  pub fewer : length chunks < count
  pub at : ℕ
  pub wrong : FirstWrong (chunk_fields version) rest at
  pub place_is : place ≡ zone_header + length (flat_map chunk_text chunks) + at

-- all chunks are there, and the length of the zone, at 16, isn't that of its parts
pub record WrongLength (count whole : ℕ) (chunks : List SpelledChunk) (place : ℕ) : Type 0 where
  pub all : length chunks ≡ count
  pub differs : whole ≢ zone_header + length (flat_map chunk_text chunks)
  pub place_is : place ≡ 16

-- the whole zone is there, and bytes are left
pub record LeftOver (count whole : ℕ) (chunks : List SpelledChunk) (rest : List ℕ) (place : ℕ) : Type 0 where
  pub all : length chunks ≡ count
  pub whole_is : whole ≡ zone_header + length (flat_map chunk_text chunks)
  pub left : 0 < length rest
  pub place_is : place ≡ whole

-- what is wrong behind these chunks
abbrev pub WrongNext : ℕ → ℕ → ℕ → List SpelledChunk → List ℕ → ℕ → Type 0
WrongNext version count whole chunks rest place =
    WrongInChunk version count chunks rest place ⊎ (WrongLength count whole chunks place ⊎ LeftOver count whole chunks rest place)

-- the header is right, and the first wrong field stands behind it or is the zone's length
pub record WrongBehind (version : ℕ) (bytes : List ℕ) (place : ℕ) : Type 0 where
  pub epoch : ℕ
  pub count : ℕ
  pub whole : ℕ
  pub chunks : List SpelledChunk
  pub rest : List ℕ
  pub begins : Begins version bytes epoch count whole chunks rest
  pub wrong : WrongNext version count whole chunks rest place

-- the first wrong field of the bytes stands at this place
abbrev pub WrongAt : ℕ → List ℕ → ℕ → Type 0
WrongAt version bytes place = FirstWrong zone_fields bytes place ⊎ WrongBehind version bytes place

-- the numbers of a zone's header
pub record IsHeader (count epoch whole : ℕ) (bytes : List ℕ) : Type 0 where
  pub count_is : count ≡ number_at w32 4 bytes
  pub epoch_is : epoch ≡ number_at w64 8 bytes
  pub whole_is : whole ≡ number_at w64 16 bytes

-- what a reader of one header tells of a chunk at `place`
abbrev pub entry_at : ℕ → ℕ → List ℕ → ZoneChunk
entry_at version place bytes = record {
  bfid = record { 0 = number_at w128 8 bytes };
  total = number_at w64 40 bytes;
  offset = number_at w64 24 bytes;
  at = place + chunk_header version;
  len = number_at w64 32 bytes;
  sum = chunk_sum version (chunk_bytes version bytes);
}

-- n chunks were read of the bytes behind the zone's header: the entries tell of them, the next stands at `place`
pub record Read (version : ℕ) (text : List ℕ) (n : ℕ) (told : List ZoneChunk) (place : ℕ) (rest : List ℕ) : Type 0 where
  pub chunks : List SpelledChunk
  pub spelled : text ≡ flat_map chunk_text chunks ++ rest
  pub each : AllByRecursion (IsChunk version) chunks
  pub count : length chunks ≡ n
  pub told_is : told ≡ entries version zone_header chunks
  pub place_is : place ≡ zone_header + length (flat_map chunk_text chunks)

-- fewer than n chunks stand there, and a field of the next is wrong
pub record Stops (version : ℕ) (text : List ℕ) (n : ℕ) (place : ℕ) : Type 0 where
  pub chunks : List SpelledChunk
  pub rest : List ℕ
  pub spelled : text ≡ flat_map chunk_text chunks ++ rest
  pub each : AllByRecursion (IsChunk version) chunks
  pub wrong : WrongInChunk version n chunks rest place

-- n chunks stand behind the zone's header, and the next would stand at `place`
pub record ReadTo (version : ℕ) (bytes : List ℕ) (n place : ℕ) : Type 0 where
  pub told : List ZoneChunk
  pub rest : List ℕ
  pub left : length rest + place ≡ length bytes
  pub read : Read version (drop 32 bytes) n told place rest

-- the numbers of a chunk's header
pub record AreNumbers (bfid offset len total : ℕ) (bytes : List ℕ) : Type 0 where
  pub bfid_is : bfid ≡ number_at w128 8 bytes
  pub offset_is : offset ≡ number_at w64 24 bytes
  pub len_is : len ≡ number_at w64 32 bytes
  pub total_is : total ≡ number_at w64 40 bytes

-- the bytes are a zone of so many chunks
pub record IsSpelled (version : ℕ) (bytes : List ℕ) (epoch count : ℕ) : Type 0 where
  pub chunks : List SpelledChunk
  pub is_zone : IsZone version epoch chunks
  pub spelled : bytes ≡ zone epoch chunks
  pub count_is : length chunks ≡ count

-- the bytes are a zone
abbrev pub SomeZone : ℕ → List ℕ → Type 0
SomeZone version bytes = (epoch : ℕ) × (chunks : List SpelledChunk) × IsZone version epoch chunks × (bytes ≡ zone epoch chunks)
