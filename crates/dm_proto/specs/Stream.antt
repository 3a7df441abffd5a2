-- What an input says: its commands in order, and how it ends.
use Rattle.std.specs.Prelude.{◌≡◌, ℕ, suc, ◌<◌, ◌⊎◌, List, [], ◌∷◌, ◌++◌, length}
use Rattle.std.specs.List.{AllByRecursion, flat_map}
use Rattle.dm_base.specs.Limits.{line_limit}
use Rattle.dm_base.specs.declared.command.Command.{Command}
use Rattle.dm_proto.specs.Words.{IsLine, IsBlank, HasNoEnd, ended}
use Rattle.dm_proto.specs.Grammar.{Says, IsSyntax}
use Rattle.dm_proto.specs.declared.heard.Heard.{Heard}
use Rattle.dm_proto.specs.declared.heard.Heard.TheVariants as heard

-- what a line and the payload behind its line feed are heard as
abbrev pub Means : List ℕ → List ℕ → Heard → Type 0
Means line payload (heard.Command command) = Says line payload command
Means line payload heard.Syntax = IsSyntax line × (payload ≡ [])

-- the bytes of what is heard: a line, its line feed and its payload
pub record IsText (text : List ℕ) (heard : Heard) : Type 0 where
  pub line : List ℕ
  pub payload : List ℕ
  pub is_line : IsLine line
  pub means : Means line payload heard
  pub spelled : text ≡ line ++ 10 ∷ payload

-- lines without a word, each with its line feed
pub record AreBlank (bytes : List ℕ) : Type 0 where
  pub lines : List (List ℕ)
  pub each : AllByRecursion IsBlank lines
  pub spelled : bytes ≡ flat_map ended lines

-- after blank lines comes the text of what is heard, and then the rest
pub record Begins (input : List ℕ) (heard : Heard) (rest : List ℕ) : Type 0 where
  pub blank : List ℕ
  pub text : List ℕ
  pub are_blank : AreBlank blank
  pub is_text : IsText text heard
  pub spelled : input ≡ blank ++ (text ++ rest)

-- a line and a part of a payload: with further bytes, one or more, they say a command
pub record IsPartial (bytes : List ℕ) : Type 0 where
  pub line : List ℕ
  pub payload : List ℕ
  pub missing : List ℕ
  pub command : Command
  pub is_line : IsLine line
  pub says : Says line (payload ++ missing) command
  pub some : 0 < length missing
  pub spelled : bytes ≡ line ++ 10 ∷ payload

-- a command that is begun and not ended
pub record IsUnfinished (bytes : List ℕ) : Type 0 where
  pub some : 0 < length bytes
  pub either : IsLine bytes ⊎ IsPartial bytes

-- more bytes without a line feed than a line has
pub record IsLong (bytes : List ℕ) : Type 0 where
  pub long : length bytes ≡ suc line_limit
  pub no_end : HasNoEnd bytes

-- how an input ends: at the end of a command, inside one, or in a line that is too long
pub data Ending : Type 0 where
  AtEnd : Ending
  Inside : Ending
  TooLong : Ending

-- blank lines, and then a command that is begun and not ended
pub record EndsInside (input : List ℕ) : Type 0 where
  pub blank : List ℕ
  pub begun : List ℕ
  pub are_blank : AreBlank blank
  pub unfinished : IsUnfinished begun
  pub spelled : input ≡ blank ++ begun

-- blank lines, then a line that is too long, and anything behind it
pub record EndsTooLong (input : List ℕ) : Type 0 where
  pub blank : List ℕ
  pub front : List ℕ
  pub rest : List ℕ
  pub are_blank : AreBlank blank
  pub long : IsLong front
  pub spelled : input ≡ blank ++ (front ++ rest)

-- no command is left in the input, and it ends so
abbrev pub Ends : List ℕ → Ending → Type 0
Ends input AtEnd = AreBlank input
Ends input Inside = EndsInside input
Ends input TooLong = EndsTooLong input

-- whatever follows these bytes, the input ends in a line that is too long
abbrev pub IsTooLong : List ℕ → Type 0
IsTooLong bytes = (rest : List ℕ) → Ends (bytes ++ rest) TooLong

-- the whole input: these are heard, in this order, and then it ends so
abbrev pub Hears : List ℕ → List Heard → Ending → Type 0
Hears input [] ending = Ends input ending
Hears input (h ∷ hs) ending = (rest : List ℕ) × Begins input h rest × Hears rest hs ending

-- a front of the input: whatever follows, these are heard, and then what is heard of what is left
abbrev pub Consumes : List ℕ → List Heard → List ℕ → Type 0
Consumes input items left =
    (tail : List ℕ) (more : List Heard) (ending : Ending) → Hears (left ++ tail) more ending → Hears (input ++ tail) (items ++ more) ending
