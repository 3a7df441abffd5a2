-- The fields of both headers, each in its place, and what a wrong field is.
use Rattle.std.specs.Prelude.{◌≡◌, ◌⊎◌, ℕ, ◌+◌, ◌<◌, ◌≤◌, ◌==◌, nat_eq, nat_lt, nat_le, not, Bool, true, IsTrue, Option, None, Some, if◌then◌else◌, List, [], ◌∷◌, ◌++◌, length, take, drop, codes}
use Rattle.std.specs.Int.{Width, w32, w64, byte_len, from_be_bytes}
use lib.Pointwise.{pointwise}
use Rattle.dm_rules.specs.Version.{chunk_header, has_sum, sum_length}
use Rattle.dm_rules.specs.Zone.{chunk_sum, sum_text}

-- the number at a place
unfoldable pub number_at : Width → ℕ → List ℕ → ℕ
number_at w place bytes = from_be_bytes w (take (byte_len w) (drop place bytes))

-- four letters as a number
abbrev pub letters : List ℕ → ℕ
letters text = from_be_bytes w32 text

-- Where a field begins, how many bytes it has, and whether what stands there is allowed. Both are asked of
-- the bytes from the header's begin on, and look at no later field.
pub record Field : Type 0 where
  pub place : ℕ
  pub width : List ℕ → ℕ
  pub allows : List ℕ → Bool

-- the header of a zone
abbrev pub zone_fields : List Field
zone_fields =
    record { place = 0; width = λ _. 4; allows = λ bytes. number_at w32 0 bytes == letters (codes "ZONE") }  -- ZONE
    ∷ record { place = 4; width = λ _. 4; allows = λ bytes. nat_lt 0 (number_at w32 4 bytes) }  -- how many chunks
    ∷ record { place = 8; width = λ _. 8; allows = λ _. true }  -- the epoch
    ∷ record { place = 16; width = λ _. 8; allows = λ _. true }  -- the length of the zone
    ∷ record { place = 24; width = λ _. 8; allows = λ bytes. number_at w64 24 bytes == 0 }  -- zeros
    ∷ []

-- the bytes of the chunk that the bytes begin with
abbrev pub chunk_bytes : ℕ → List ℕ → List ℕ
chunk_bytes version bytes = take (number_at w64 32 bytes) (drop (chunk_header version) bytes)

-- whether what stands between the header's fields and the chunk's bytes is the sum of these
abbrev pub sum_agrees : ℕ → List ℕ → Bool
sum_agrees version bytes =
    pointwise nat_eq (take (sum_length version) (drop 48 bytes)) (sum_text (chunk_sum version (chunk_bytes version bytes)))

-- what stands there as a sum
abbrev pub sum_there : ℕ → List ℕ → Option (List ℕ)
sum_there version bytes = if has_sum version then Some (take 32 (drop 48 bytes)) else None

-- the fields of a chunk's header that both versions have
abbrev pub number_fields : List Field
number_fields =
    record { place = 0; width = λ _. 4; allows = λ bytes. number_at w32 0 bytes == letters (codes "CHNK") }  -- CHNK
    ∷ record { place = 4; width = λ _. 4; allows = λ bytes. number_at w32 4 bytes == 0 }  -- zeros
    ∷ record { place = 8; width = λ _. 16; allows = λ _. true }  -- the bitfile's identifier
    ∷ record { place = 24; width = λ _. 8; allows = λ _. true }  -- the offset in the bitfile
    ∷ record { place = 32; width = λ _. 8; allows = λ bytes. nat_lt 0 (number_at w64 32 bytes) }  -- how many bytes
    ∷ record { place = 40; width = λ _. 8; allows = λ bytes. nat_le (number_at w64 24 bytes + number_at w64 32 bytes) (number_at w64 40 bytes) }  -- the length of the bitfile
    ∷ []

-- The sum and the bytes behind them. They are one field, at the place of the sum, since a sum can be judged only once all
-- its bytes are there.
abbrev pub text_field : ℕ → Field
text_field version =
    record { place = 48; width = λ bytes. sum_length version + number_at w64 32 bytes; allows = λ bytes. sum_agrees version bytes }

-- a chunk of a volume of this version
abbrev pub chunk_fields : ℕ → List Field
chunk_fields version = number_fields ++ text_field version ∷ []

-- the field is there and its bytes are allowed
pub record IsRight (f : Field) (bytes : List ℕ) : Type 0 where
  pub there : f.place + f.width bytes ≤ length bytes
  pub allowed : IsTrue (f.allows bytes)

-- the bytes end inside the field
pub record IsCut (f : Field) (bytes : List ℕ) (place : ℕ) : Type 0 where
  pub ends : length bytes < f.place + f.width bytes
  pub place_is : place ≡ length bytes

-- the field is there, and its bytes aren't allowed
pub record IsRefused (f : Field) (bytes : List ℕ) (place : ℕ) : Type 0 where
  pub there : f.place + f.width bytes ≤ length bytes
  pub refused : IsTrue (not (f.allows bytes))
  pub place_is : place ≡ f.place

abbrev pub AllRight : List Field → List ℕ → Type 0
AllRight [] bytes = Unit {0}
AllRight (f ∷ fs) bytes = IsRight f bytes × AllRight fs bytes

-- the first field that isn't right is wrong at this place
abbrev pub FirstWrong : List Field → List ℕ → ℕ → Type 0
FirstWrong [] bytes place = ⊥
FirstWrong (f ∷ fs) bytes place = IsCut f bytes place ⊎ (IsRefused f bytes place ⊎ (IsRight f bytes × FirstWrong fs bytes place))
