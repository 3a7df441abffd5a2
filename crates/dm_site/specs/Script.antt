-- What a whole run of the program says, by its status.
use Rattle.std.specs.Prelude.{◌≡◌, ◌≢◌, ◌⊎◌, ℕ, ◌<◌, ◌≤◌, List, [], ◌∷◌, ◌++◌, length, codes, map, Option, Some, None, IfSome, IsTrue, Bool, ⊤}
use Rattle.dm_host.specs.Count.{Rose}
use Rattle.dm_reply.specs.Took.{Took}
use Rattle.dm_proto.specs.Stream.{Hears, Ending, AtEnd, Inside, TooLong}
use Rattle.dm_proto.specs.declared.heard.Heard.{Heard}
use Rattle.dm_site.specs.State.{State, beginning, Agrees}
use Rattle.dm_site.specs.Session.{Exchange, ScriptRun, heard_of, faults_of, replies_of, plain_of, ReadsPlain, Counts}

-- the words are `run` and a folder that isn't empty
pub record AreRun (words : List (List ℕ)) : Type 0 where
  pub folder : List ℕ
  pub some : 0 < length folder
  pub spelled : words ≡ codes "run" ∷ folder ∷ []

-- these bytes were taken from what was left, where the source tells
abbrev pub TakenFrom : Option (List ℕ) → Option (List ℕ) → List ℕ → Type 0
TakenFrom None after input = after ≡ None
TakenFrom (Some left) after input = (rest : List ℕ) × (after ≡ Some rest) × (left ≡ input ++ rest)

-- the source was read to its end
abbrev pub ReadToEnd : Option (List ℕ) → Type 0
ReadToEnd rest = IfSome rest (λ bytes. bytes ≡ [])

-- All that was heard in the input was answered, whole.
pub record AllAnswered (input output : List ℕ) (entries : List Exchange) (ending : Ending) : Type 0 where
  pub hears : Hears input (heard_of entries) ending
  pub whole : output ≡ replies_of entries

-- A front of what was heard was answered.
pub record FrontHeard (input : List ℕ) (entries : List Exchange) : Type 0 where
  pub later : List Heard
  pub ending : Ending
  pub hears : Hears input (heard_of entries ++ later) ending

-- The replies are whole but for the last one, which is cut.
pub record CutShort (output : List ℕ) (entries : List Exchange) : Type 0 where
  pub missing : List ℕ
  pub some : 0 < length missing
  pub cut : output ++ missing ≡ replies_of entries

-- How a run ended, what was heard until then, and what was answered.
pub data Ended (status : ℕ) (rest : Option (List ℕ)) (input output : List ℕ) (entries : List Exchange) : Type 0 where
  -- the input ended, or a command was begun when it ended, or a line was too long
  ReachedEnd : status ≡ 0 → AllAnswered input output entries AtEnd → ReadToEnd rest → Ended status rest input output entries
  EndedInside : status ≡ 8 → AllAnswered input output entries Inside → ReadToEnd rest → Ended status rest input output entries
  LineTooLong : status ≡ 8 → AllAnswered input output entries TooLong → Ended status rest input output entries
  -- the source failed, or gave as many bytes as are counted
  SourceFailed : status ≡ 4 → (ending : Ending) → AllAnswered input output entries ending → Ended status rest input output entries
  BytesUsedUp : status ≡ 9 → length input ≡ 18446744073709551615 → (ending : Ending) → AllAnswered input output entries ending → Ended status rest input output entries
  -- the sink failed or ended
  ReplyCut : status ≡ 5 → FrontHeard input entries → CutShort output entries → Ended status rest input output entries
  -- a command couldn't be read for want of memory
  OutOfMemory : status ≡ 7 → FrontHeard input entries → output ≡ replies_of entries → Ended status rest input output entries
  -- nothing was read: the words aren't those of a run, or the device failed at the opening
  NotBegun : (status ≡ 1) ⊎ (status ≡ 6) → input ≡ [] → output ≡ [] → entries ≡ [] → Ended status rest input output entries

-- The device's faults are those of the entries, or the one of an opening that failed.
abbrev pub FaultsCounted : ℕ → ℕ → ℕ → ℕ → Type 0
FaultsCounted status faults old new = Counts faults old new ⊎ ((status ≡ 6) × Rose old new)

-- A run of the program. `left` and `rest` are what the source had before and after it, `taken` and `given` what the
-- sink had taken, `old` and `new` the device's count of faults, `image` the volume's file after it.
pub record IsScript (told : Bool) (left rest taken given : Option (List ℕ)) (old new : ℕ) (image : List ℕ) (status : ℕ) : Type 0 where
  pub input : List ℕ
  pub output : List ℕ
  pub entries : List Exchange
  pub final : State
  pub took : TakenFrom left rest input
  pub gave : Took taken given output
  pub run : ScriptRun beginning entries final
  pub ended : Ended status rest input output entries
  pub faults : FaultsCounted status (faults_of entries) old new
  pub reads : IsTrue told → ReadsPlain entries
  pub holds : IsTrue told → status ≢ 6 → status ≢ 1 → Agrees (plain_of entries) final image
