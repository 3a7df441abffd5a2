-- What a reader is between two pieces of its input.
use Rattle.std.specs.Prelude.{ℕ, ◌<◌, Option, List, length}
use Rattle.dm_proto.specs.Stream.{IsUnfinished}
use Rattle.dm_proto.specs.declared.heard.Heard.{Heard}

-- the bytes of the command that is begun and not ended, and what is heard and not yet taken; of a payload
-- that is read off and kept nowhere zeros stand for the bytes, of which nothing that is heard depends
pub record Reading : Type 0 where
  pub begun : List ℕ
  pub ready : Option Heard

-- nothing is begun, or something that is not ended
abbrev pub MayBegin : List ℕ → Type 0
MayBegin begun = 0 < length begun → IsUnfinished begun
