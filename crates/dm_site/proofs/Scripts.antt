-- From a session in the midst of its input to a whole run.
use Rattle.std.proofs.Common.{◌≡◌, ◌≢◌, ℕ, ◌+◌, ◌-◌, ◌<◌, ◌≤◌, List, [], ◌∷◌, ◌++◌, length, take, Option, Some, None, Bool, IsTrue, Result, Ok, Err, refl, sym, ◌∙◌, ap, subst, inl, inr, ◌⊎◌, arith, append_assoc, length-append}
use Rattle.std.proofs.lemmas.List.{append-nil, length-take-le}
use Rattle.dm_base.specs.declared.command.Command.TheVariants as command
use Rattle.dm_base.specs.declared.reply.Reply.TheVariants as reply
use Rattle.dm_proto.specs.declared.heard.Heard.TheVariants as heard
use Rattle.dm_proto.specs.Stream.{Ending, AtEnd, Inside, TooLong, Ends}
use Rattle.dm_proto.specs.Reading.{MayBegin}
use Rattle.dm_proto.proofs.Hearing.{blank_none, hears_end, hears_from, hears_some}
use Rattle.dm_proto.proofs.Steps.{inside_ends}
use Rattle.dm_plain.specs.Namespace.{Namespace, bytes_of}
use Rattle.dm_plain.proofs.Laws.{bytes_of-no_files}
use Rattle.dm_site.specs.declared.session.Stop.{Stop}
use Rattle.dm_site.specs.declared.session.Stop.TheVariants as stop
use Rattle.dm_site.specs.State.{State, beginning, Agrees}
use Rattle.dm_site.specs.Session.{Exchange, ScriptRun, heard_of, faults_of, replies_of, plain_step, plain_from, no_file, plain_of, ReadsFrom, ReadsPlain, Counts}
use Rattle.dm_site.specs.Talk.{Standing, Talk, Stopped}
use Rattle.dm_site.specs.declared.status.Status.{Status}
use Rattle.dm_site.specs.declared.status.Status.TheVariants as status
use Rattle.dm_site.specs.Status.{number_of, status_of, EndsReader}
use Rattle.dm_site.specs.Script.{FaultsCounted, TakenFrom, ReadToEnd, AllAnswered, FrontHeard, CutShort, Ended, ReachedEnd, EndedInside, LineTooLong, SourceFailed, BytesUsedUp, ReplyCut, OutOfMemory, NotBegun, IsScript}
use Rattle.dm_site.specs.Listening.{Listened}
use Rattle.dm_reply.proofs.Taking.{took_none}
use Rattle.dm_site.proofs.Talking.{talk_none, talk_more, talk_then, stopped_then}

-- nothing is taken
pub taken_none : (a : Option (List ℕ)) → TakenFrom a a []
taken_none None = refl
taken_none (Some left) = (left, refl, refl)

-- some bytes, and then some more
pub taken_then : (a b c : Option (List ℕ)) (xs ys : List ℕ) → TakenFrom a b xs → TakenFrom b c ys → TakenFrom a c (xs ++ ys)
taken_then None b c xs ys h k = subst (λ (o : Option (List ℕ)). TakenFrom o c ys) h k
taken_then (Some left) b c xs ys (mid, is, split) k =
    let rest : TakenFrom (Some mid) c ys = subst (λ (o : Option (List ℕ)). TakenFrom o c ys) is k in
    (rest.0, rest.1, split ∙ ap (λ (l : List ℕ). xs ++ l) rest.2 ∙ sym (append_assoc xs ys rest.0))

-- the reads, each by itself
reads_at : (plain : Namespace) (before after : List Exchange) (path bytes : List ℕ) (faults : ℕ)
    → ReadsFrom plain (before ++ record { heard = heard.Command (command.Read path); faults = faults; reply = reply.Content bytes } ∷ after) → bytes_of path (plain_from plain before) ≡ Some bytes
reads_at plain [] after path bytes faults h = h.0
reads_at plain (e ∷ before) after path bytes faults h = reads_at (plain_step plain e.heard e.reply) before after path bytes faults h.1

pub reads_plain : (entries : List Exchange) → ReadsFrom no_file entries → ReadsPlain entries
reads_plain entries h before after path bytes faults e = reads_at no_file before after path bytes faults (subst (ReadsFrom no_file) e h)

-- no file is there, and none in the namespace
agrees_none : (s : State) (image : List ℕ) → s ≡ beginning → Agrees no_file s image
agrees_none s image e = subst (λ (t : State). Agrees no_file t image) (sym e) (λ path. bytes_of-no_files 0 path)

-- a whole run
pub script_of : (told : Bool) (before after : Option (List ℕ)) (old new : Standing) (input left missing : List ℕ) (status : ℕ) (t : Talk told old new input left missing)
    → old.state ≡ beginning → TakenFrom before after input → Ended status after input t.output t.entries
    → IsScript told before after old.taken new.taken old.count new.count new.image status
script_of told before after old new input left missing status t begins took ended = record {
  input = input;
  output = t.output;
  entries = t.entries;
  final = new.state;
  took = took;
  gave = t.took;
  run = subst (λ (s : State). ScriptRun s t.entries new.state) begins t.run;
  ended = ended;
  faults = inl t.counts;
  reads = λ yes. reads_plain t.entries (t.plain yes no_file (agrees_none old.state old.image begins)).1;
  holds = λ yes _ _. (t.plain yes no_file (agrees_none old.state old.image begins)).0;
}

-- all that was heard was answered
all_answered : (told : Bool) (old new : Standing) (input left : List ℕ) (ending : Ending) (t : Talk told old new input left []) → Ends left ending → AllAnswered input t.output t.entries ending
all_answered told old new input left ending t ends = record {
  hears = hears_end input (heard_of t.entries) left ending t.consumes ends;
  whole = sym (append-nil t.output) ∙ t.said;
}

front_heard : (told : Bool) (old new : Standing) (input left missing : List ℕ) (t : Talk told old new input left missing) → FrontHeard input t.entries
front_heard told old new input left missing t =
    let later = hears_some left in
    record { later = later.items; ending = later.ending; hears = hears_from input (heard_of t.entries) left later.items later.ending t.consumes later.hears }

-- what may be begun ends somehow
ends_some : (begun : List ℕ) → MayBegin begun → (ending : Ending) × Ends begun ending
ends_some [] may = (AtEnd, blank_none)
ends_some (b ∷ begun) may = (Inside, inside_ends (b ∷ begun) (may (omega arith)))

pub script_source_failed : (told : Bool) (before after : Option (List ℕ)) (old new : Standing) (more : ℕ) (begun : List ℕ) → old.state ≡ beginning → Listened told before after old new more begun → MayBegin begun
    → IsScript told before after old.taken new.taken old.count new.count new.image 4
script_source_failed told before after old new more begun begins l may =
    let e = ends_some begun may in
    script_of told before after old new l.input begun [] 4 l.talk begins l.took (SourceFailed refl e.0 (all_answered told old new l.input begun e.0 l.talk e.1))

pub script_used_up : (told : Bool) (before after : Option (List ℕ)) (old new : Standing) (more : ℕ) (begun : List ℕ) → old.state ≡ beginning → Listened told before after old new more begun → MayBegin begun → more ≤ 0
    → IsScript told before after old.taken new.taken old.count new.count new.image 9
script_used_up told before after old new more begun begins l may none =
    let e = ends_some begun may in
    script_of told before after old new l.input begun [] 9 l.talk begins l.took
    (BytesUsedUp refl (omega (arith, l.counted, none)) e.0 (all_answered told old new l.input begun e.0 l.talk e.1))

pub script_done : (told : Bool) (before after : Option (List ℕ)) (old new : Standing) (more : ℕ) (begun : List ℕ) → old.state ≡ beginning → Listened told before after old new more begun → Ends begun AtEnd → ReadToEnd after
    → IsScript told before after old.taken new.taken old.count new.count new.image 0
script_done told before after old new more begun begins l ends whole =
    script_of told before after old new l.input begun [] 0 l.talk begins l.took (ReachedEnd refl (all_answered told old new l.input begun AtEnd l.talk ends) whole)

pub script_inside : (told : Bool) (before after : Option (List ℕ)) (old new : Standing) (more : ℕ) (begun : List ℕ) → old.state ≡ beginning → Listened told before after old new more begun → Ends begun Inside → ReadToEnd after
    → IsScript told before after old.taken new.taken old.count new.count new.image 8
script_inside told before after old new more begun begins l ends whole =
    script_of told before after old new l.input begun [] 8 l.talk begins l.took (EndedInside refl (all_answered told old new l.input begun Inside l.talk ends) whole)

pub script_stopped : (told : Bool) (before after : Option (List ℕ)) (old new : Standing) (input : List ℕ) (s : Stop) → old.state ≡ beginning → TakenFrom before after input → Stopped told old new input s
    → IsScript told before after old.taken new.taken old.count new.count new.image (number_of (status_of s))
script_stopped told before after old new input stop.ReplyCut begins took (left, missing, some, t) =
    script_of told before after old new input left missing 5 t begins took
    (ReplyCut refl (front_heard told old new input left missing t) (record { missing = missing; some = some; cut = t.said }))
script_stopped told before after old new input stop.OutOfMemory begins took (left, t) =
    script_of told before after old new input left [] 7 t begins took (OutOfMemory refl (front_heard told old new input left [] t) (sym (append-nil t.output) ∙ t.said))
script_stopped told before after old new input stop.LineTooLong begins took (left, t, long) =
    script_of told before after old new input left [] 8 t begins took
    (LineTooLong refl (all_answered told old new input left TooLong t (subst (λ (l : List ℕ). Ends l TooLong) (append-nil left) (long []))))

-- the session has begun
pub listened_begin : (told : Bool) (before : Option (List ℕ)) (at : Standing) → Listened told before before at at 18446744073709551615 []
listened_begin told before at = record { input = []; took = taken_none before; counted = refl; talk = talk_none told at [] }

-- a piece more was read, and answered
pub listened_more : (told told' : Bool) (a b c : Option (List ℕ)) (old mid new : Standing) (more : ℕ) (begun piece begun' : List ℕ) → told' ≡ told → Listened told a b old mid more begun
    → TakenFrom b c piece → length piece ≤ more → Talk told' mid new (begun ++ piece) begun' [] → Listened told a c old new (more - length piece) begun'
listened_more told told' a b c old mid new more begun piece begun' same l took few t = record {
  input = l.input ++ piece;
  took = taken_then a b c l.input piece l.took took;
  counted = omega (arith, length-append l.input piece, l.counted, few);
  talk =
      talk_then told old mid new (l.input ++ piece) (begun ++ piece) begun' []
      (talk_more told old mid l.input begun [] piece l.talk) (subst (λ (d : Bool). Talk d mid new (begun ++ piece) begun' []) same t);
}

-- a piece more was read, and the session stopped in it
pub script_stopped_more : (told told' : Bool) (a b c : Option (List ℕ)) (old mid new : Standing) (more : ℕ) (begun piece : List ℕ) (s : Stop) → told' ≡ told → old.state ≡ beginning → Listened told a b old mid more begun
    → TakenFrom b c piece → Stopped told' mid new (begun ++ piece) s → IsScript told a c old.taken new.taken old.count new.count new.image (number_of (status_of s))
script_stopped_more told told' a b c old mid new more begun piece s same begins l took t =
    script_stopped told a c old new (l.input ++ piece) s begins (taken_then a b c l.input piece l.took took)
    (stopped_then told old mid new (l.input ++ piece) (begun ++ piece) s (talk_more told old mid l.input begun [] piece l.talk)
    (subst (λ (d : Bool). Stopped d mid new (begun ++ piece) s) same t))

-- nothing was taken meanwhile
taken_nothing : (b c : Option (List ℕ)) → TakenFrom b c [] → c ≡ b
taken_nothing None c h = h
taken_nothing (Some left) c (rest, is, split) = is ∙ ap (λ (l : List ℕ). Some l) (sym split)

pub listened_as : (told : Bool) (before after after' : Option (List ℕ)) (old new : Standing) (more : ℕ) (begun : List ℕ) → after' ≡ after → Listened told before after old new more begun → Listened told before after' old new more begun
listened_as told before after after' old new more begun e l = subst (λ (o : Option (List ℕ)). Listened told before o old new more begun) (sym e) l

-- the input has ended
pub script_at_end : (told : Bool) (before after after' : Option (List ℕ)) (old new : Standing) (more : ℕ) (begun none : List ℕ) (s : Status) → old.state ≡ beginning → Listened told before after old new more begun
    → TakenFrom after after' none → none ≡ [] → EndsReader begun s → ReadToEnd after' → IsScript told before after' old.taken new.taken old.count new.count new.image (number_of s)
script_at_end told before after after' old new more begun none s begins l took empty ends whole =
    let still : after' ≡ after = taken_nothing after after' (subst (λ (x : List ℕ). TakenFrom after after' x) empty took) in
    script_ends told before after' old new more begun s begins (listened_as told before after after' old new more begun still l) ends whole where
      script_ends : (told : Bool) (before after : Option (List ℕ)) (old new : Standing) (more : ℕ) (begun : List ℕ) (s : Status) → old.state ≡ beginning → Listened told before after old new more begun
          → EndsReader begun s → ReadToEnd after → IsScript told before after old.taken new.taken old.count new.count new.image (number_of s)
      script_ends told before after old new more begun status.Done begins l ends whole = script_done told before after old new more begun begins l ends whole
      script_ends told before after old new more begun status.InputCut begins l ends whole = script_inside told before after old new more begun begins l ends whole
      script_ends told before after old new more begun status.NoRun begins l ends whole = absurd ends
      script_ends told before after old new more begun status.SourceFailed begins l ends whole = absurd ends
      script_ends told before after old new more begun status.ReplyCut begins l ends whole = absurd ends
      script_ends told before after old new more begun status.DeviceFailed begins l ends whole = absurd ends
      script_ends told before after old new more begun status.OutOfMemory begins l ends whole = absurd ends
      script_ends told before after old new more begun status.BytesUsedUp begins l ends whole = absurd ends

-- a stop, under the status that the code gives it
pub script_stopped_as : (told told' : Bool) (a b c : Option (List ℕ)) (old mid new : Standing) (more : ℕ) (begun piece : List ℕ) (s : Stop) (code : Status) → code ≡ status_of s → told' ≡ told → old.state ≡ beginning → Listened told a b old mid more begun
    → TakenFrom b c piece → Stopped told' mid new (begun ++ piece) s → IsScript told a c old.taken new.taken old.count new.count new.image (number_of code)
script_stopped_as told told' a b c old mid new more begun piece s code is same begins l took t =
    subst (λ (n : Status). IsScript told a c old.taken new.taken old.count new.count new.image (number_of n)) (sym is)
    (script_stopped_more told told' a b c old mid new more begun piece s same begins l took t)

-- a new reader has nothing begun
pub listened_new : (told : Bool) (before : Option (List ℕ)) (at : Standing) (begun : List ℕ) → begun ≡ [] → Listened told before before at at 18446744073709551615 begun
listened_new told before at begun e = subst (λ (b : List ℕ). Listened told before before at at 18446744073709551615 b) (sym e) (listened_begin told before at)

pub may_begin_none : (begun : List ℕ) → begun ≡ [] → MayBegin begun
may_begin_none begun e = λ some. absurd (omega (arith, ap length e, some))

-- a piece more, which is the front of the buffer
pub listened_front : (told told' : Bool) (a b c : Option (List ℕ)) (old mid new : Standing) (more n : ℕ) (begun buffer begun' : List ℕ) → told' ≡ told → Listened told a b old mid more begun
    → TakenFrom b c (take n buffer) → n ≤ length buffer → n ≤ more → Talk told' mid new (begun ++ take n buffer) begun' [] → Listened told a c old new (more - n) begun'
listened_front told told' a b c old mid new more n begun buffer begun' same l took within few t =
    let long : length (take n buffer) ≡ n = length-take-le n buffer within in
    subst (λ (m : ℕ). Listened told a c old new (more - m) begun') long
    (listened_more told told' a b c old mid new more begun (take n buffer) begun' same l took (omega (arith, long, few)) t)

-- nothing was begun
pub script_none : (told : Bool) (before taken : Option (List ℕ)) (old new : ℕ) (image : List ℕ) (s : ℕ) → (s ≡ 1) ⊎ (s ≡ 6) → FaultsCounted s 0 old new
    → IsScript told before before taken taken old new image s
script_none told before taken old new image s which faults = record {
  input = [];
  output = [];
  entries = [];
  final = beginning;
  took = taken_none before;
  gave = took_none taken;
  run = refl;
  ended = NotBegun which refl refl refl;
  faults = faults;
  reads = λ _. reads_plain [] tt;
  holds = λ _ six one. absurd (elim which [ inl e ↦ one e | inr e ↦ six e ]);
}

-- an opening that didn't fail left the count
pub script_opened : (told told' : Bool) (before after taken given : Option (List ℕ)) (old mid new : ℕ) (image : List ℕ) (s s' : ℕ) → told' ≡ told → s' ≡ s → mid ≡ old
    → IsScript told' before after taken given mid new image s → IsScript told before after taken given old new image s'
script_opened told told' before after taken given old mid new image s s' same is kept p =
    subst (λ (d : Bool). IsScript d before after taken given old new image s') same
    (subst (λ (n : ℕ). IsScript told' before after taken given old new image n) (sym is)
    (subst (λ (n : ℕ). IsScript told' before after taken given n new image s) kept p))

-- which status has a number
pub status_is : (s : Status) (n : ℕ) → n ≡ number_of s → ((n ≡ 4) → s ≡ status.SourceFailed) × ((n ≡ 5) → s ≡ status.ReplyCut) × ((n ≡ 6) → s ≡ status.DeviceFailed) × ((n ≡ 1) → s ≡ status.NoRun)
status_is status.Done n e = (λ h. absurd (omega (arith, e, h)), λ h. absurd (omega (arith, e, h)), λ h. absurd (omega (arith, e, h)), λ h. absurd (omega (arith, e, h)))
status_is status.NoRun n e = (λ h. absurd (omega (arith, e, h)), λ h. absurd (omega (arith, e, h)), λ h. absurd (omega (arith, e, h)), λ h. refl)
status_is status.SourceFailed n e = (λ h. refl, λ h. absurd (omega (arith, e, h)), λ h. absurd (omega (arith, e, h)), λ h. absurd (omega (arith, e, h)))
status_is status.ReplyCut n e = (λ h. absurd (omega (arith, e, h)), λ h. refl, λ h. absurd (omega (arith, e, h)), λ h. absurd (omega (arith, e, h)))
status_is status.DeviceFailed n e = (λ h. absurd (omega (arith, e, h)), λ h. absurd (omega (arith, e, h)), λ h. refl, λ h. absurd (omega (arith, e, h)))
status_is status.OutOfMemory n e = (λ h. absurd (omega (arith, e, h)), λ h. absurd (omega (arith, e, h)), λ h. absurd (omega (arith, e, h)), λ h. absurd (omega (arith, e, h)))
status_is status.InputCut n e = (λ h. absurd (omega (arith, e, h)), λ h. absurd (omega (arith, e, h)), λ h. absurd (omega (arith, e, h)), λ h. absurd (omega (arith, e, h)))
status_is status.BytesUsedUp n e = (λ h. absurd (omega (arith, e, h)), λ h. absurd (omega (arith, e, h)), λ h. absurd (omega (arith, e, h)), λ h. absurd (omega (arith, e, h)))
