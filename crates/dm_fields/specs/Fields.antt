-- The fields of records: what each is spelled as. Every record is a list of these.
use Rattle.std.specs.Prelude.{ℕ, Bool, cond, Option, None, Some, List, [], ◌∷◌, ◌++◌, length}
use Rattle.std.specs.List.{flat_map}
use Rattle.dm_base.specs.declared.identifier.Secs.{Secs}
use Rattle.dm_base.specs.declared.volume.Chunk.{Chunk}
use Rattle.dm_fields.specs.Numbers.{be16, be32, be64}

-- a byte, as a kind, a group, a slot or a version
abbrev pub byte_field : ℕ → List ℕ
byte_field n = n ∷ []

-- 1 for yes, 0 for no
abbrev pub flag_field : Bool → List ℕ
flag_field b = cond b 1 0 ∷ []

-- a path: its length in two bytes, and its bytes
abbrev pub path_field : List ℕ → List ℕ
path_field text = be16 (length text) ++ text

-- the name of a dump: its length in one byte, and its bytes
abbrev pub name_field : List ℕ → List ℕ
name_field text = length text ∷ text

-- the bytes of a file: their number in four bytes, and they
abbrev pub content_field : List ℕ → List ℕ
content_field bytes = be32 (length bytes) ++ bytes

-- where and how long a chunk is: 38 bytes
abbrev pub chunk_field : Chunk → List ℕ
chunk_field c = be64 c.offset ++ (be64 c.len ++ (c.vsn.0 ++ (be64 c.zone ++ be64 c.place)))

-- the SHA-256 of its bytes: 1 and the 32 bytes, or 0 where it has none
abbrev pub sum_field : Option (List ℕ) → List ℕ
sum_field None = 0 ∷ []
sum_field (Some sum) = 1 ∷ sum

-- the longer chunk: 39 or 71 bytes
abbrev pub longer_chunk_field : Chunk → List ℕ
longer_chunk_field c = chunk_field c ++ sum_field c.sum

-- a list: the number of things in four bytes, and they one after the other
abbrev pub list_field : {X : Type 0} → (X → List ℕ) → List X → List ℕ
list_field field xs = be32 (length xs) ++ flat_map field xs

-- a short list: their number in one byte, and they
abbrev pub short_list_field : {X : Type 0} → (X → List ℕ) → List X → List ℕ
short_list_field field xs = length xs ∷ flat_map field xs

-- a time or none: 1 and the time, or 0 and zeros
abbrev pub moment_field : Option Secs → List ℕ
moment_field None = 0 ∷ be64 0
moment_field (Some time) = 1 ∷ be64 time.0
