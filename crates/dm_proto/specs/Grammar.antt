-- The commands, and the lines that say them. This is the table of docs/COMMANDS.md: for each command its
-- words, the payload behind its line, and what must hold besides.
use Rattle.std.specs.Prelude.{◌≡◌, ◌≢◌, ℕ, ◌+◌, ◌^◌, ◌<◌, ◌≤◌, Some, None, List, [], ◌∷◌, length, codes}
use Rattle.std.specs.List.{AllByRecursion}
use Rattle.std.specs.Char.{IsAsciiDigit}
use Rattle.std.specs.Str.Parse.{digits_value}
use Rattle.dm_base.specs.Limits.{file_limit, digits_limit, groups_limit}
use Rattle.dm_base.specs.Naming.{IsPath, IsDumpName}
use Rattle.dm_base.specs.Hexadecimal.{hexadecimal}
use Rattle.dm_base.specs.declared.command.Command.{Command}
use Rattle.dm_base.specs.declared.command.Command.TheVariants.{Write, LongWrite, Patch, LongPatch, Read, Put, PutRelease, Get, Release, Remove}
use Rattle.dm_base.specs.declared.command.Command.TheVariants.{List as ListFiles, Attr, Dump, Undump, Restore, HardDelete, Age, Merge, Reuse, Volumes}
use Rattle.dm_base.specs.declared.command.Command.TheVariants.{Space, Move, Snap, Unsnap, Salvage, Audit, AuditDeep, Quit, Shutdown}
use Rattle.dm_base.specs.declared.command.Prefix.{Prefix}
use Rattle.dm_base.specs.declared.command.Prefix.TheVariants.{Root, Under}
use Rattle.dm_base.specs.Prefix.{prefix_text}
use Rattle.dm_proto.specs.Words.{words}

-- a number in decimal digits, leading zeros allowed
pub record IsNumber (digits : List ℕ) : Type 0 where
  pub some : 0 < length digits
  pub few : length digits ≤ digits_limit
  pub each : AllByRecursion IsAsciiDigit digits

-- what a word of a command says
pub data Slot : Type 0 where
  keyword : (text : List ℕ) → Slot
  path : (text : List ℕ) → Slot
  name : (text : List ℕ) → Slot
  prefix : (prefix : Prefix) → Slot
  number : (value : ℕ) → Slot
  group : (value : ℕ) → Slot
  bfid : (value : ℕ) → Slot

-- the path of a prefix is a path
abbrev pub IsPrefix : Prefix → Type 0
IsPrefix Root = Unit {0}
IsPrefix (Under p) = IsPath p

-- the word says this: a path, a name and a prefix by their texts, a number by decimal digits, a group by one
-- digit (48 is `0`) from 1 to 4, and an identifier as it prints
abbrev pub SaysSlot : Slot → List ℕ → Type 0
SaysSlot (keyword text) word = word ≡ text
SaysSlot (path text) word = (word ≡ text) × IsPath text
SaysSlot (name text) word = (word ≡ text) × IsDumpName text
SaysSlot (prefix p) word = (word ≡ prefix_text p) × IsPrefix p
SaysSlot (number value) word = IsNumber word × (digits_value 10 word ≡ value)
SaysSlot (group value) word = (word ≡ (48 + value) ∷ []) × (1 ≤ value) × (value ≤ groups_limit)
SaysSlot (bfid value) word = (word ≡ hexadecimal 32 value) × (value < 16 ^ 32)

-- the words say these, one each
abbrev pub Spells : List (List ℕ) → List Slot → Type 0
Spells [] [] = Unit {0}
Spells [] (slot ∷ slots) = ⊥
Spells (word ∷ words) [] = ⊥
Spells (word ∷ words) (slot ∷ slots) = SaysSlot slot word × Spells words slots

-- what the words of a command say
abbrev pub spelling : Command → List Slot
spelling (Write p bytes) = keyword (codes "write") ∷ path p ∷ number (length bytes) ∷ []
spelling (LongWrite p len) = keyword (codes "write") ∷ path p ∷ number len ∷ []
spelling (Patch p offset bytes) = keyword (codes "patch") ∷ path p ∷ number offset ∷ number (length bytes) ∷ []
spelling (LongPatch p offset len) = keyword (codes "patch") ∷ path p ∷ number offset ∷ number len ∷ []
spelling (Read p) = keyword (codes "read") ∷ path p ∷ []
spelling (Put p) = keyword (codes "put") ∷ path p ∷ []
spelling (PutRelease p) = keyword (codes "put") ∷ keyword (codes "-r") ∷ path p ∷ []
spelling (Get p) = keyword (codes "get") ∷ path p ∷ []
spelling (Release p) = keyword (codes "release") ∷ path p ∷ []
spelling (Remove p) = keyword (codes "rm") ∷ path p ∷ []
spelling ListFiles = keyword (codes "ls") ∷ []
spelling (Attr p) = keyword (codes "attr") ∷ path p ∷ []
spelling (Dump n) = keyword (codes "dump") ∷ name n ∷ []
spelling (Undump n) = keyword (codes "undump") ∷ name n ∷ []
spelling (Restore n p target) = keyword (codes "restore") ∷ name n ∷ path p ∷ path target ∷ []
spelling HardDelete = keyword (codes "hdelete") ∷ []
spelling (Age age) = keyword (codes "age") ∷ number age ∷ []
spelling (Merge g) = keyword (codes "merge") ∷ group g.0 ∷ []
spelling (Reuse g) = keyword (codes "reuse") ∷ group g.0 ∷ []
spelling (Volumes g) = keyword (codes "vols") ∷ group g.0 ∷ []
spelling Space = keyword (codes "space") ∷ []
spelling (Move p g None) = keyword (codes "move") ∷ prefix p ∷ group g.0 ∷ []
spelling (Move p g (Some second)) = keyword (codes "move") ∷ prefix p ∷ group g.0 ∷ group second.0 ∷ []
spelling (Snap g n) = keyword (codes "snap") ∷ group g.0 ∷ name n ∷ []
spelling (Unsnap g n) = keyword (codes "unsnap") ∷ group g.0 ∷ name n ∷ []
spelling (Salvage g n b) = keyword (codes "salvage") ∷ group g.0 ∷ name n ∷ bfid b.0 ∷ []
spelling Audit = keyword (codes "audit") ∷ []
spelling AuditDeep = keyword (codes "audit") ∷ keyword (codes "deep") ∷ []
spelling Quit = keyword (codes "quit") ∷ []
spelling Shutdown = keyword (codes "shutdown") ∷ []

-- the payload behind the line brings what the command has of it: the bytes, or, where they are more than a
-- file may have, their number alone
abbrev pub Brings : Command → List ℕ → Type 0
Brings (Write p bytes) payload = payload ≡ bytes
Brings (LongWrite p len) payload = length payload ≡ len
Brings (Patch p offset bytes) payload = payload ≡ bytes
Brings (LongPatch p offset len) payload = length payload ≡ len
Brings _ payload = payload ≡ []

-- what holds of a command besides its words: a payload that is kept is no longer than a file may be, one that
-- isn't kept is longer, and a move's groups differ
abbrev pub IsProper : Command → Type 0
IsProper (Write p bytes) = length bytes ≤ file_limit
IsProper (LongWrite p len) = file_limit < len
IsProper (Patch p offset bytes) = length bytes ≤ file_limit
IsProper (LongPatch p offset len) = file_limit < len
IsProper (Move p g None) = Unit {0}
IsProper (Move p g (Some second)) = g.0 ≢ second.0
IsProper _ = Unit {0}

-- the line and the payload behind its line feed say the command
pub record Says (line payload : List ℕ) (command : Command) : Type 0 where
  pub spelled : Spells (words line) (spelling command)
  pub proper : IsProper command
  pub brought : Brings command payload

-- a line with a word that says no command, whatever follows it
pub record IsSyntax (line : List ℕ) : Type 0 where
  pub some : words line ≢ []
  pub none : (payload : List ℕ) (command : Command) → Says line payload command → ⊥
