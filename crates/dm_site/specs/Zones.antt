-- The zone of a bitfile, and a reply with a file's bytes.
use Rattle.std.specs.Prelude.{◌≡◌, ℕ, ◌+◌, ◌<◌, ◌≤◌, List, [], length, drop}
use Rattle.dm_base.specs.declared.reply.Reply.{Reply}
use Rattle.dm_base.specs.declared.reply.Reply.TheVariants as reply

-- 80 bytes of headers and the bitfile's bytes; a bitfile without bytes has none
pub record IsZone (zone bytes : List ℕ) : Type 0 where
  pub none : length bytes ≡ 0 → zone ≡ []
  pub long : 0 < length bytes → length zone ≡ 80 + length bytes
  pub there : 0 < length bytes → drop 80 zone ≡ bytes

-- the bytes, or want of memory
abbrev pub IsCopy : List ℕ → Reply → Type 0
IsCopy bytes (reply.Content copy) = copy ≡ bytes
IsCopy bytes reply.NoMemory = Unit {0}
IsCopy bytes other = ⊥
