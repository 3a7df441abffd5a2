-- A part of a session, from one state to another.
use Rattle.std.specs.Prelude.{◌≡◌, ℕ, ◌<◌, List, [], ◌++◌, length, Option, Bool, IsTrue}
use Rattle.dm_host.specs.Disk.{Disk}
use Rattle.dm_proto.specs.Stream.{Consumes, IsTooLong}
use Rattle.dm_reply.specs.Took.{Took}
use Rattle.dm_plain.specs.Namespace.{Namespace}
use Rattle.dm_site.specs.declared.archive.Archive.{Archive}
use Rattle.dm_site.specs.declared.session.Stop.{Stop}
use Rattle.dm_site.specs.declared.session.Stop.TheVariants as stop
use Rattle.dm_site.specs.State.{State, state_of, Agrees}
use Rattle.dm_site.specs.Session.{Exchange, ScriptRun, heard_of, faults_of, replies_of, plain_from, ReadsFrom, Counts}

-- where a session stands: the files, the volume's image, what the sink has taken, the device's count of faults
pub record Standing : Type 0 where
  pub state : State
  pub image : List ℕ
  pub taken : Option (List ℕ)
  pub count : ℕ

abbrev pub standing_of : Archive → Disk → Option (List ℕ) → ℕ → Standing
standing_of archive disk taken count = record { state = state_of archive; image = disk.seen 16; taken = taken; count = count }

-- Of the input these entries were heard, and the rest is left. They were answered, but for what is missing of the
-- last reply. Where the device tells what it holds, the reads were those of the plain namespace.
pub record Talk (told : Bool) (old new : Standing) (input left missing : List ℕ) : Type 0 where
  pub entries : List Exchange
  pub output : List ℕ
  pub run : ScriptRun old.state entries new.state
  pub consumes : Consumes input (heard_of entries) left
  pub said : output ++ missing ≡ replies_of entries
  pub took : Took old.taken new.taken output
  pub counts : Counts (faults_of entries) old.count new.count
  pub plain : IsTrue told → (plain : Namespace) → Agrees plain old.state old.image
      → Agrees (plain_from plain entries) new.state new.image × ReadsFrom plain entries

-- How far a session came in an input before it stopped.
abbrev pub Stopped : Bool → Standing → Standing → List ℕ → Stop → Type 0
Stopped told old new input stop.ReplyCut = (left missing : List ℕ) × (0 < length missing) × Talk told old new input left missing
Stopped told old new input stop.OutOfMemory = (left : List ℕ) × Talk told old new input left []
Stopped told old new input stop.LineTooLong = (left : List ℕ) × Talk told old new input left [] × IsTooLong left
