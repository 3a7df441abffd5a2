-- A run of a session: what was heard, with its replies.
use Rattle.std.specs.Prelude.{◌≡◌, ℕ, zero, suc, ◌+◌, List, [], ◌∷◌, ◌++◌, map, Option, Some, None}
use Rattle.std.specs.List.{flat_map}
use Rattle.dm_base.specs.declared.command.Command.TheVariants as command
use Rattle.dm_base.specs.declared.reply.Reply.{Reply}
use Rattle.dm_base.specs.declared.reply.Reply.TheVariants as reply
use Rattle.dm_proto.specs.declared.heard.Heard.{Heard}
use Rattle.dm_proto.specs.declared.heard.Heard.TheVariants as heard
use Rattle.dm_reply.specs.Text.{text_of}
use Rattle.dm_host.specs.Count.{raised}
use Rattle.dm_plain.specs.Namespace.{Namespace, no_files, with_file, bytes_of}
use Rattle.dm_site.specs.State.{State}
use Rattle.dm_site.specs.Rules.{Step}

-- a command or a line that is none, the faults that the device reported meanwhile, and the reply
pub record Exchange : Type 0 where
  pub heard : Heard
  pub faults : ℕ
  pub reply : Reply

-- the entries are steps, each from the state that the one before it left
abbrev pub ScriptRun : State → List Exchange → State → Type 0
ScriptRun old [] new = new ≡ old
ScriptRun old (e ∷ es) new = (mid : State) × Step old e.heard e.faults e.reply mid × ScriptRun mid es new

abbrev pub heard_of : List Exchange → List Heard
heard_of entries = map (λ e. e.heard) entries

-- the faults meanwhile
abbrev pub faults_of : List Exchange → ℕ
faults_of [] = 0
faults_of (e ∷ es) = e.faults + faults_of es

-- the texts of the replies
abbrev pub replies_of : List Exchange → List ℕ
replies_of entries = flat_map (λ e. text_of e.reply) entries

-- What the entry does to the plain namespace: an accepted write alone changes it.
abbrev pub plain_step : Namespace → Heard → Reply → Namespace
plain_step plain (heard.Command (command.Write path bytes)) (reply.Changed change) = with_file path bytes plain
plain_step plain heard reply = plain

abbrev pub plain_from : Namespace → List Exchange → Namespace
plain_from plain [] = plain
plain_from plain (e ∷ es) = plain_from (plain_step plain e.heard e.reply) es

-- the plain namespace that a session begins with; its commands don't look at ages
abbrev pub no_file : Namespace
no_file = no_files 0

-- the plain namespace after these entries
abbrev pub plain_of : List Exchange → Namespace
plain_of entries = plain_from no_file entries

-- Each read that is answered with bytes is answered with those that the plain namespace has by then.
abbrev pub ReadsPlain : List Exchange → Type 0
ReadsPlain entries = (before after : List Exchange) (path bytes : List ℕ) (faults : ℕ)
    → entries ≡ before ++ record { heard = heard.Command (command.Read path); faults = faults; reply = reply.Content bytes } ∷ after
    → bytes_of path (plain_of before) ≡ Some bytes

-- a read that is answered with bytes is answered with those of the namespace
abbrev pub ReadIs : Namespace → Heard → Reply → Type 0
ReadIs plain (heard.Command (command.Read path)) (reply.Content bytes) = bytes_of path plain ≡ Some bytes
ReadIs plain heard reply = Unit {0}

-- each entry, from this namespace on
abbrev pub ReadsFrom : Namespace → List Exchange → Type 0
ReadsFrom plain [] = Unit {0}
ReadsFrom plain (e ∷ es) = ReadIs plain e.heard e.reply × ReadsFrom (plain_step plain e.heard e.reply) es

-- Exactly so many calls failed: each raised the count by one, up to its last value, and no other call changed it.
abbrev pub Counts : ℕ → ℕ → ℕ → Type 0
Counts zero old new = new ≡ old
Counts (suc n) old new = Counts n (raised 1 old) new
