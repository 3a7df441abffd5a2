-- Each line with a word has one form: how many bytes of payload it takes, and what it is heard as.
use Rattle.std.proofs.Common.{◌≡◌, ◌≢◌, ℕ, ◌-◌, ◌<◌, ◌≤◌, Some, None, List, [], ◌∷◌, ◌++◌, length, replicate, refl, sym, ◌∙◌, ap, subst, arith, length-append}
use Rattle.std.proofs.lemmas.Bool.{cond-true, cond-false, le-leb, lt-leb}
use Rattle.std.proofs.lemmas.List.{nil_from_length, length-replicate}
use Rattle.std.specs.Prelude.{nat_le}
use Rattle.dm_base.specs.Limits.{file_limit}
use Rattle.dm_base.specs.declared.command.Command.{Command}
use Rattle.dm_base.specs.declared.command.Command.TheVariants as command
use Rattle.dm_proto.specs.Words.{words, IsLine}
use Rattle.dm_proto.specs.Grammar.{Spells, spelling, Brings, IsProper, Says, IsSyntax}
use Rattle.dm_proto.specs.Found.{found_in, opened_command, kept_command, long_command}
use Rattle.dm_proto.specs.Stream.{Means, IsPartial}
use Rattle.dm_proto.specs.declared.heard.Heard.{Heard}
use Rattle.dm_proto.specs.declared.heard.Heard.TheVariants as heard
use Rattle.dm_proto.specs.declared.line.Line.{Line}
use Rattle.dm_proto.specs.declared.line.Line.TheVariants as line
use Rattle.dm_proto.specs.declared.line.Opening.{Opening}
use Rattle.dm_proto.proofs.Meaning.{Meant, IsFoundIn, found_sound, found_complete, line_for}

-- what is meant is said
pub says_from : (text payload : List ℕ) (c : Command) → Meant (words text) payload c → Says text payload c
says_from text payload c m = record { spelled = m.spelled; proper = m.proper; brought = m.brought }

-- no command is found as no line
line_for_not_blank : (c : Command) → line_for c ≡ line.Blank → ⊥
line_for_not_blank (command.Write p b) e = cc
line_for_not_blank (command.LongWrite p n) e = cc
line_for_not_blank (command.Patch p k b) e = cc
line_for_not_blank (command.LongPatch p k n) e = cc
line_for_not_blank _ e = cc

line_for_not_syntax : (c : Command) → line_for c ≡ line.Syntax → ⊥
line_for_not_syntax (command.Write p b) e = cc
line_for_not_syntax (command.LongWrite p n) e = cc
line_for_not_syntax (command.Patch p k b) e = cc
line_for_not_syntax (command.LongPatch p k n) e = cc
line_for_not_syntax _ e = cc

-- a command that is found as such has no payload
bare_only : (d : Command) (payload : List ℕ) (c : Command) → line_for d ≡ line.Command c → Brings d payload → (payload ≡ []) × (d ≡ c)
bare_only (command.Write p b) payload c e q = absurd (cc)
bare_only (command.LongWrite p n) payload c e q = absurd (cc)
bare_only (command.Patch p k b) payload c e q = absurd (cc)
bare_only (command.LongPatch p k n) payload c e q = absurd (cc)
bare_only _ payload c e q = (q, cc)

-- the command of a payload that is kept, and of one that is not
pub opened_kept : (o : Opening) (payload : List ℕ) → o.size ≤ file_limit → opened_command o payload ≡ kept_command o.path o.offset payload
opened_kept o payload l = cond-true (nat_le o.size file_limit) _ _ (le-leb o.size file_limit l)

pub opened_long : (o : Opening) (payload : List ℕ) → file_limit < o.size → opened_command o payload ≡ long_command o.path o.offset o.size
opened_long o payload l = cond-false (nat_le o.size file_limit) _ _ (lt-leb o.size file_limit l)

abbrev OpenedOnly : Command → List ℕ → Opening → Type 0
OpenedOnly d payload o = (length payload ≡ o.size) × (d ≡ opened_command o payload)

payload_only : (d : Command) (payload : List ℕ) (o : Opening) → line_for d ≡ line.Payload o → IsProper d → Brings d payload → OpenedOnly d payload o
payload_only (command.Write p b) payload o e l q =
    let n : Opening = record { path = p; offset = None; size = length b } in
    let same : n ≡ o = cc in
    subst (OpenedOnly (command.Write p b) payload) same
    (ap length q, ap (λ (x : List ℕ). command.Write p x) (sym q) ∙ sym (opened_kept n payload l))
payload_only (command.LongWrite p len) payload o e l q =
    let n : Opening = record { path = p; offset = None; size = len } in
    let same : n ≡ o = cc in
    subst (OpenedOnly (command.LongWrite p len) payload) same (q, sym (opened_long n payload l))
payload_only (command.Patch p k b) payload o e l q =
    let n : Opening = record { path = p; offset = Some k; size = length b } in
    let same : n ≡ o = cc in
    subst (OpenedOnly (command.Patch p k b) payload) same
    (ap length q, ap (λ (x : List ℕ). command.Patch p k x) (sym q) ∙ sym (opened_kept n payload l))
payload_only (command.LongPatch p k len) payload o e l q =
    let n : Opening = record { path = p; offset = Some k; size = len } in
    let same : n ≡ o = cc in
    subst (OpenedOnly (command.LongPatch p k len) payload) same (q, sym (opened_long n payload l))
payload_only _ payload o e l q = absurd (cc)

-- what a line with a word is heard as, by its payload
pub record Form (text : List ℕ) : Type 0 where
  -- how many bytes of payload
  pub size : ℕ
  pub hear : List ℕ → Heard
  pub heard : (payload : List ℕ) → length payload ≡ size → Means text payload (hear payload)
  pub only : (payload : List ℕ) (h : Heard) → Means text payload h → (length payload ≡ size) × (h ≡ hear payload)

form_syntax : (text : List ℕ) → IsSyntax text → Form text
form_syntax text r = record {
  size = 0;
  hear = λ _. heard.Syntax;
  heard = λ payload e. (r, nil_from_length payload e);
  only = only;
}
  where
    only : (payload : List ℕ) (h : Heard) → Means text payload h → (length payload ≡ 0) × (h ≡ heard.Syntax)
    only payload (heard.Command c) m = absurd (r.none payload c m)
    only payload heard.Syntax m = (ap length m.1, refl)

form_bare : (text : List ℕ) (c : Command) → found_in (words text) ≡ line.Command c → Meant (words text) [] c → Form text
form_bare text c e r = record {
  size = 0;
  hear = λ _. heard.Command c;
  heard = λ payload l. subst (λ (x : List ℕ). Says text x c) (sym (nil_from_length payload l)) (says_from text [] c r);
  only = only;
}
  where
    only : (payload : List ℕ) (h : Heard) → Means text payload h → (length payload ≡ 0) × (h ≡ heard.Command c)
    only payload (heard.Command d) m =
        let both = bare_only d payload c (sym (found_complete (words text) d m.spelled m.proper) ∙ e) m.brought in
        (ap length both.0, ap (λ x. heard.Command x) both.1)
    only payload heard.Syntax m = absurd (m.0.none [] c (says_from text [] c r))

-- what is opened is heard as its command
pub form_opened : (text : List ℕ) (o : Opening) → found_in (words text) ≡ line.Payload o → Form text
form_opened text o e = record {
  size = o.size;
  hear = λ payload. heard.Command (opened_command o payload);
  heard = λ payload l. says_from text payload (opened_command o payload) (meant payload l);
  only = only;
}
  where
    meant : (payload : List ℕ) → length payload ≡ o.size → Meant (words text) payload (opened_command o payload)
    meant = subst (IsFoundIn (words text)) e (found_sound (words text))

    only : (payload : List ℕ) (h : Heard) → Means text payload h → (length payload ≡ o.size) × (h ≡ heard.Command (opened_command o payload))
    only payload (heard.Command d) m =
        let both = payload_only d payload o (sym (found_complete (words text) d m.spelled m.proper) ∙ e) m.proper m.brought in
        (both.0, ap (λ x. heard.Command x) both.1)
    only payload heard.Syntax m =
        let filler = replicate o.size 0 in
        absurd (m.0.none filler (opened_command o filler) (says_from text filler (opened_command o filler) (meant filler (length-replicate o.size 0))))

pub size_opened : (text : List ℕ) (o : Opening) (e : found_in (words text) ≡ line.Payload o) → (form_opened text o e).size ≡ o.size
unfolding form_opened
size_opened text o e = refl

pub hear_opened : (text : List ℕ) (o : Opening) (e : found_in (words text) ≡ line.Payload o) (payload : List ℕ) → (form_opened text o e).hear payload ≡ heard.Command (opened_command o payload)
unfolding form_opened
hear_opened text o e payload = refl

-- a line of which nothing is found is a syntax line
pub syntax_from : (text : List ℕ) → words text ≢ [] → found_in (words text) ≡ line.Syntax → IsSyntax text
syntax_from text some e = record {
  some = some;
  none = λ payload c s. line_for_not_syntax c (sym (found_complete (words text) c s.spelled s.proper) ∙ e);
}

pub no_words : (ws : List (List ℕ)) → found_in ws ≡ line.Blank → ws ≡ []
no_words ws e = subst (IsFoundIn ws) e (found_sound ws)

form_by : (text : List ℕ) (found : Line) → found_in (words text) ≡ found → words text ≢ [] → Form text
form_by text line.Blank e some = absurd (some (no_words (words text) e))
form_by text line.Syntax e some = form_syntax text (syntax_from text some e)
form_by text (line.Command c) e some = form_bare text c e (subst (IsFoundIn (words text)) e (found_sound (words text)))
form_by text (line.Payload o) e some = form_opened text o e

-- each line with a word has a form
pub form_of : (text : List ℕ) → words text ≢ [] → Form text
form_of text some = form_by text (found_in (words text)) refl some

-- a line and less than its payload
partial_by : (text payload missing : List ℕ) (h : Heard) → IsLine text → 0 < length missing → Means text (payload ++ missing) h → IsPartial (text ++ 10 ∷ payload)
partial_by text payload missing (heard.Command c) l some m =
    record { line = text; payload = payload; missing = missing; command = c; is_line = l; says = m; some = some; spelled = refl }
partial_by text payload missing heard.Syntax l some m =
    absurd (omega (arith, some, ap length m.1, length-append payload missing))

pub partial_from : (text payload : List ℕ) (form : Form text) → IsLine text → length payload < form.size → IsPartial (text ++ 10 ∷ payload)
partial_from text payload form l small =
    let missing = replicate (form.size - length payload) 0 in
    let filled : length missing ≡ form.size - length payload = length-replicate (form.size - length payload) 0 in
    let whole : length (payload ++ missing) ≡ form.size = omega (arith, length-append payload missing, filled, small) in
    partial_by text payload missing (form.hear (payload ++ missing)) l (omega (arith, filled, small)) (form.heard (payload ++ missing) whole)

-- a command has a word
spells_some : (c : Command) → Spells [] (spelling c) → ⊥
spells_some (command.Move p g None) s = s
spells_some (command.Move p g (Some h)) s = s
spells_some _ s = s

pub says_some : (text payload : List ℕ) (c : Command) → Says text payload c → words text ≢ []
says_some text payload c s e = spells_some c (subst (λ (ws : List (List ℕ)). Spells ws (spelling c)) e s.spelled)
