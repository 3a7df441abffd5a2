-- What each step of the reader hears.
use Rattle.std.proofs.Common.{◌≡◌, ◌≢◌, ℕ, ◌<◌, ◌≤◌, ◌+◌, ◌-◌, ◌⊎◌, inl, inr, Bool, true, false, not, Option, Some, None, Result, Err, Vec, Global, List, [], ◌∷◌, ◌++◌, length, get_or, take, drop, replicate, refl, sym, ◌∙◌, ap, subst, arith, append_assoc, length-append, eqb, lit≤}
use Rattle.std.specs.Prelude.{nat_lt, position, is_some}
use Rattle.std.proofs.lemmas.Bool.{cases_lt, cond-true, lt-ltb, eqb-true, eqb-false, true≢false}
use Rattle.std.proofs.lemmas.List.{take-append-drop, take_more, take_all, length-take-le, get_or-take, get_or_default, nil_from_length, length-replicate}
use Rattle.std.proofs.Math.Seq.{take-add}
use Rattle.std.proofs.lemmas.List.Elements.{recursion_from_All}
use Rattle.std.proofs.lemmas.List.Quantifiers.{position-Some}
use Rattle.std.proofs.lemmas.List.Sums.{fails_before_first}
use Rattle.std.specs.List.{position_or_len, All}
use Rattle.std.specs.Bool.{MatchBool}
use Rattle.std.specs.Option.{option_to_list}
use Rattle.dm_base.specs.Limits.{file_limit, line_limit}
use Rattle.dm_proto.specs.Words.{words, IsLine, HasNoEnd, ended}
use Rattle.dm_proto.specs.Found.{found_in, opened_command, kept_command, long_command}
use Rattle.dm_proto.specs.Stream.{Means, IsText, Hears, Ends, Inside, TooLong, Consumes, IsUnfinished}
use Rattle.dm_proto.specs.Reading.{MayBegin}
use Rattle.dm_proto.specs.Holding.{begun_of, payload_of, opening_of, IsHeld, IsHeldPayload, IsEnded, IsStep}
use Rattle.dm_proto.specs.declared.line.Line.TheVariants as line
use Rattle.dm_proto.specs.declared.line.Opening.{Opening}
use Rattle.dm_base.specs.declared.command.Command.{Command}
use Rattle.dm_proto.specs.declared.heard.Heard.{Heard}
use Rattle.dm_proto.specs.declared.heard.Heard.TheVariants as heard
use Rattle.dm_proto.specs.declared.step.Payload.{Payload}
use Rattle.dm_proto.specs.declared.step.Payload.TheVariants.{Kept, Skipped}
use Rattle.dm_proto.proofs.Lines.{no_end-append}
use Rattle.dm_proto.proofs.Meaning.{IsFoundIn, found_sound}
use Rattle.dm_proto.proofs.Forms.{Form, form_opened, size_opened, hear_opened, says_from, syntax_from, no_words, opened_kept, opened_long, partial_from}
use Rattle.dm_proto.proofs.Hearing.{blank_none, blank_line, consumes_none, consumes_blank, consumes_on, consumes_more, hears_swapped, long_front}

abbrev pub is_end : ℕ → Bool
is_end b = eqb b 10

-- where the first line feed is
pub end_none : (xs : List ℕ) → length xs ≤ position_or_len is_end xs → HasNoEnd xs
end_none xs l = recursion_from_All (λ b. b ≢ 10) xs (λ k d h. eqb-false (get_or xs k d) 10 (fails_before_first is_end xs k d (omega arith)))

pub end_nowhere : (xs : List ℕ) → position is_end xs ≡ None → HasNoEnd xs
end_nowhere xs e = elim (cases_lt (position_or_len is_end xs) (length xs)) [
  | inl l ↦
      let some : position is_end xs ≡ Some (position_or_len is_end xs) = cond-true (nat_lt (position_or_len is_end xs) (length xs)) _ _ (lt-ltb _ _ l) in
      absurd (cc)
  | inr l ↦ end_none xs l
]

pub record IsEndAt (xs : List ℕ) (i : ℕ) : Type 0 where
  pub inside : i < length xs
  pub no_end : HasNoEnd (take i xs)
  pub at : get_or xs i 0 ≡ 10

pub end_some : (xs : List ℕ) (i : ℕ) → position is_end xs ≡ Some i → IsEndAt xs i
end_some xs i e =
    let p = position-Some is_end xs i 0 e in
    let none : All (λ b. b ≢ 10) (take i xs) = λ k d h. let below : k < i = omega (arith, h, length-take-le i xs (omega (arith, p.0))) in
    let other = λ (f : get_or (take i xs) k d ≡ 10). eqb-false (get_or xs k 0) 10 (p.2 k below) (sym (get_or_default xs k d 0 (omega (arith, p.0))) ∙ sym (get_or-take i xs k d below) ∙ f) in other
    in
    record {
      inside = p.0;
      no_end = recursion_from_All (λ b. b ≢ 10) (take i xs) none;
      at = eqb-true (get_or xs i 0) 10 p.1;
    }

-- the error that a call passed on, as the callee's result
pub err_same : {T E : Type 0} (S : Type 0) (r : Result T E) (x y z : E) → r ≡ Err x → x ≡ y → r ≡ Err z → let wrap : E → Result S E = λ w. Err w in wrap y ≡ wrap z
err_same {T} {E} S r x y z p q e =
    let both : Err x ≡ Err z = sym p ∙ e in
    let same : y ≡ z = cc in
    let wrap : E → Result S E = λ w. Err w in
    ap wrap same

-- a line that is too long for what was begun and a piece
pub long_all : (l b rest : List ℕ) → HasNoEnd l → HasNoEnd b → line_limit < length l + length b → Ends ((l ++ b) ++ rest) TooLong
long_all l b rest p q long = long_front (l ++ b) rest (no_end-append l b p q) (omega (arith, length-append l b, long))

pub long_part : (l b rest : List ℕ) (n : ℕ) → HasNoEnd l → HasNoEnd (take n b) → line_limit < length l + length (take n b) → Ends ((l ++ b) ++ rest) TooLong
long_part l b rest n p q long =
    let split : (l ++ take n b) ++ (drop n b ++ rest) ≡ (l ++ b) ++ rest =
    append_assoc l (take n b) (drop n b ++ rest) ∙ ap (λ x. l ++ x) (sym (append_assoc (take n b) (drop n b) rest) ∙ ap (λ x. x ++ rest) (take-append-drop n b)) ∙ sym (append_assoc l b rest)
    in
    subst (λ (x : List ℕ). Ends x TooLong) split (long_all l (take n b) (drop n b ++ rest) p q long)

-- a text by itself
pub consumes_text : (text : List ℕ) (h : Heard) → IsText text h → Consumes text (h ∷ []) []
consumes_text text h t tail more e heard = (tail, record { blank = []; text = text; are_blank = blank_none; is_text = t; spelled = refl }, heard)

-- the same bytes are left
pub consumes_same : (input left : List ℕ) → input ≡ left → Consumes input [] left
consumes_same input left e = subst (Consumes input []) e (consumes_none input)

empty_line : (new : List ℕ) → new ≡ [] → IsLine new
empty_line new e = subst IsLine (sym e) (record { fits = lit≤ tt; no_end = tt })

-- what is left of a line that has ended
pub ended_blank : (text new : List ℕ) → new ≡ [] → IsLine text → found_in (words text) ≡ line.Blank → IsEnded text new None None
ended_blank text new e l f = record {
  heard = subst (Consumes (ended text) []) (sym e) (consumes_blank (ended text) (blank_line text (record { is_line = l; no_word = no_words (words text) f })));
  held = empty_line new e;
  idle = tt;
}

ended_item : (text new : List ℕ) (h : Heard) → new ≡ [] → IsLine text → Means text [] h → IsEnded text new None (Some h)
ended_item text new h e l m = record {
  heard = subst (Consumes (ended text) (h ∷ [])) (sym e) (consumes_text (ended text) h (record { line = text; payload = []; is_line = l; means = m; spelled = refl }));
  held = empty_line new e;
  idle = e;
}

blank_or_some : (ws : List (List ℕ)) → (ws ≡ []) ⊎ (ws ≢ [])
blank_or_some [] = inl refl
blank_or_some (w ∷ ws) = inr (λ e. cc)

found_some : (ws : List (List ℕ)) → found_in ws ≡ line.Syntax → ws ≢ []
found_some ws f e = let both : line.Blank ≡ line.Syntax = ap found_in (sym e) ∙ f in cc

pub ended_syntax : (text new : List ℕ) → new ≡ [] → IsLine text → found_in (words text) ≡ line.Syntax → IsEnded text new None (Some heard.Syntax)
ended_syntax text new e l f = ended_item text new heard.Syntax e l (syntax_from text (found_some (words text) f) f, refl)

pub ended_command : (text new : List ℕ) (c : Command) → new ≡ [] → IsLine text → found_in (words text) ≡ line.Command c → IsEnded text new None (Some (heard.Command c))
ended_command text new c e l f = ended_item text new (heard.Command c) e l (says_from text [] c (subst (IsFoundIn (words text)) f (found_sound (words text))))

-- what is said by a line with a payload
opened_says : (text payload : List ℕ) (o : Opening) → found_in (words text) ≡ line.Payload o → length payload ≡ o.size → Means text payload (heard.Command (opened_command o payload))
opened_says text payload o f e = says_from text payload (opened_command o payload) (subst (IsFoundIn (words text)) f (found_sound (words text)) payload e)

pub ended_none : (text new : List ℕ) (o : Opening) → new ≡ [] → IsLine text → found_in (words text) ≡ line.Payload o → o.size ≡ 0 → (bytes : List ℕ) → bytes ≡ [] → IsEnded text new None (Some (heard.Command (kept_command o.path o.offset bytes)))
ended_none text new o e l f none bytes empty =
    let small : o.size ≤ file_limit = omega (arith, none) in
    ended_item text new (heard.Command (kept_command o.path o.offset bytes)) e l
    (
    subst (λ (x : List ℕ). Means text [] (heard.Command (kept_command o.path o.offset x))) (sym empty)
    (subst (λ (c : Command). Means text [] (heard.Command c)) (opened_kept o [] small) (opened_says text [] o f (sym none)))
    )

pub ended_kept : (text new : List ℕ) (o : Opening) (bytes : Vec ℕ Global) → new ≡ text → IsLine text → found_in (words text) ≡ line.Payload o → o.size ≤ file_limit → 0 < o.size → payload_of (Kept o bytes) ≡ [] → IsEnded text new (Some (Kept o bytes)) None
ended_kept text new o bytes e l f small some empty = record {
  heard = consumes_same (ended text) (begun_of new (Some (Kept o bytes))) (ap (λ (x : List ℕ). x ++ 10 ∷ []) (sym e) ∙ ap (λ (x : List ℕ). new ++ 10 ∷ x) (sym empty));
  held = subst (λ (x : List ℕ). IsHeldPayload x (Kept o bytes)) (sym e)
      (record { is_line = l; opened = f; missing = (small, omega (arith, some, ap length empty)) });
  idle = tt;
}

pub ended_skipped : (text new : List ℕ) (o : Opening) → new ≡ text → IsLine text → found_in (words text) ≡ line.Payload o → file_limit < o.size → IsEnded text new (Some (Skipped o o.size)) None
ended_skipped text new o e l f long =
    let none : o.size - o.size ≡ 0 = omega arith in
    let some : 0 < o.size = omega (arith, long) in
    let all : o.size ≤ o.size = omega arith in
    let empty : replicate (o.size - o.size) 0 ≡ [] = ap (λ (n : ℕ). replicate n 0) none in
    record {
      heard = consumes_same (ended text) (begun_of new (Some (Skipped o o.size))) (ap (λ (x : List ℕ). x ++ 10 ∷ []) (sym e) ∙ ap (λ (x : List ℕ). new ++ 10 ∷ x) (sym empty));
      held = subst (λ (x : List ℕ). IsHeldPayload x (Skipped o o.size)) (sym e)
          (record { is_line = l; opened = f; missing = (long, some, all) });
      idle = tt;
    }

-- a piece without a line feed
pub step_part : (line bytes new : List ℕ) → new ≡ line ++ bytes → IsLine new → IsStep line bytes new (record { taken = length bytes; payload = None; ready = None })
step_part line bytes new e l = record {
  fits = omega arith;
  goes = λ some. some;
  heard = consumes_same (line ++ take (length bytes) bytes) new (ap (λ (x : List ℕ). line ++ x) (take_all (length bytes) bytes (omega arith)) ∙ sym e);
  held = l;
  idle = tt;
}

-- a piece in which the line ends
pub step_line : (line bytes new : List ℕ) (end : ℕ) (payload : Option Payload) (ready : Option Heard) → IsEndAt bytes end → IsEnded (line ++ take end bytes) new payload ready → IsStep line bytes new (record { taken = end + 1; payload = payload; ready = ready })
step_line line bytes new end payload ready at e =
    let more : (line ++ take end bytes) ++ 10 ∷ [] ≡ line ++ take (end + 1) bytes =
    append_assoc line (take end bytes) (10 ∷ []) ∙ ap (λ x. line ++ (take end bytes ++ x ∷ [])) (sym at.at) ∙ ap (λ x. line ++ x) (sym (take_more bytes end 0 at.inside))
    in
    record {
      fits = omega (arith, at.inside);
      goes = λ some. omega arith;
      heard = subst (λ (x : List ℕ). Consumes x (option_to_list ready) (begun_of new payload)) more e.heard;
      held = e.held;
      idle = e.idle;
    }

-- a line, its line feed, a part of a payload, and bytes behind them
pieced : (text a b : List ℕ) → (text ++ 10 ∷ a) ++ b ≡ text ++ 10 ∷ (a ++ b)
pieced text a b = append_assoc text (10 ∷ a) b

-- a piece of a payload that is kept, of which something is missing still
pub kept_part : (text bytes : List ℕ) (o : Opening) (held more : Vec ℕ Global) → IsHeldPayload text (Kept o held) → length held.items + length bytes < o.size → more.items ≡ held.items ++ bytes
    → IsStep (begun_of text (Some (Kept o held))) bytes text (record { taken = length bytes; payload = Some (Kept o more); ready = None })
kept_part text bytes o held more h small is = record {
  fits = omega arith;
  goes = λ some. some;
  heard = consumes_same ((text ++ 10 ∷ held.items) ++ take (length bytes) bytes) (text ++ 10 ∷ more.items)
      (pieced text held.items (take (length bytes) bytes) ∙ ap (λ (x : List ℕ). text ++ 10 ∷ (held.items ++ x)) (take_all (length bytes) bytes (omega arith)) ∙ ap (λ (x : List ℕ). text ++ 10 ∷ x) (sym is));
  held = record { is_line = h.is_line; opened = h.opened; missing = (h.missing.0, omega (arith, small, ap length is, length-append held.items bytes)) };
  idle = tt;
}

-- the piece in which it ends
pub kept_whole : (text bytes new command : List ℕ) (o : Opening) (held : Vec ℕ Global) (missing : ℕ) → IsHeldPayload text (Kept o held) → length held.items + missing ≡ o.size → missing ≤ length bytes → new ≡ [] → command ≡ held.items ++ take missing bytes
    → IsStep (begun_of text (Some (Kept o held))) bytes new (record { taken = missing; payload = None; ready = Some (heard.Command (kept_command o.path o.offset command)) })
kept_whole text bytes new command o held missing h whole fits none is =
    let payload = held.items ++ take missing bytes in
    let filled : length payload ≡ o.size = omega (arith, length-append held.items (take missing bytes), length-take-le missing bytes fits, whole) in
    let item = heard.Command (kept_command o.path o.offset command) in
    let means : Means text payload item =
    subst (λ (x : List ℕ). Means text payload (heard.Command (kept_command o.path o.offset x))) (sym is)
    (subst (λ (c : Command). Means text payload (heard.Command c)) (opened_kept o payload h.missing.0) (opened_says text payload o h.opened filled))
    in
    record {
      fits = fits;
      goes = λ _. omega (arith, whole, h.missing.1);
      heard = subst (Consumes ((text ++ 10 ∷ held.items) ++ take missing bytes) (item ∷ [])) (sym none)
          (subst (λ (x : List ℕ). Consumes x (item ∷ []) []) (sym (pieced text held.items (take missing bytes)))
          (consumes_text (text ++ 10 ∷ payload) item (record { line = text; payload = payload; is_line = h.is_line; means = means; spelled = refl })));
      held = empty_line new none;
      idle = none;
    }

-- for bytes that were read off zeros stand
swapped : (text x y : List ℕ) (o : Opening) → IsLine text → found_in (words text) ≡ line.Payload o → file_limit < o.size → length x ≡ length y → length y ≤ o.size → Consumes (text ++ 10 ∷ x) [] (text ++ 10 ∷ y)
swapped text x y o l f long same within tail more e h =
    let form : Form text = form_opened text o f in
    let plain : (p q : List ℕ) → form.hear p ≡ form.hear q =
    λ p q. hear_opened text o f p ∙ ap (λ (c : Command). heard.Command c) (opened_long o p long ∙ sym (opened_long o q long)) ∙ sym (hear_opened text o f q)
    in
    let fits : length y ≤ form.size = subst (λ (n : ℕ). length y ≤ n) (sym (size_opened text o f)) within in
    subst (λ (z : List ℕ). Hears z more e) (sym (pieced text x tail))
    (hears_swapped text x y tail form more e l plain same fits (subst (λ (z : List ℕ). Hears z more e) (pieced text y tail) h))

pub skipped_part : (text bytes : List ℕ) (o : Opening) (left after : ℕ) → IsHeldPayload text (Skipped o left) → after + length bytes ≡ left → 0 < after
    → IsStep (begun_of text (Some (Skipped o left))) bytes text (record { taken = length bytes; payload = Some (Skipped o after); ready = None })
skipped_part text bytes o left after h rest some =
    let came : List ℕ = replicate (o.size - left) 0 in
    let all : List ℕ = take (length bytes) bytes in
    let later : List ℕ = replicate (o.size - after) 0 in
    let n : length came ≡ o.size - left = length-replicate (o.size - left) 0 in
    let m : length later ≡ o.size - after = length-replicate (o.size - after) 0 in
    let k : length all ≡ length bytes = length-take-le (length bytes) bytes (omega arith) in
    let sizes : length (came ++ all) ≡ length later = omega (arith, length-append came all, n, m, k, rest, h.missing.2) in
    let within : length later ≤ o.size = omega (arith, m) in
    let fits : after ≤ o.size = omega (arith, rest, h.missing.2) in
    record {
      fits = omega arith;
      goes = λ some. some;
      heard = subst (λ (x : List ℕ). Consumes x [] (text ++ 10 ∷ later)) (sym (pieced text came all))
          (swapped text (came ++ all) later o h.is_line h.opened h.missing.0
          sizes within);
      held = record { is_line = h.is_line; opened = h.opened; missing = (h.missing.0, some, fits) };
      idle = tt;
    }

pub skipped_whole : (text bytes new : List ℕ) (o : Opening) (left : ℕ) → IsHeldPayload text (Skipped o left) → left ≤ length bytes → new ≡ []
    → IsStep (begun_of text (Some (Skipped o left))) bytes new (record { taken = left; payload = None; ready = Some (heard.Command (long_command o.path o.offset o.size)) })
skipped_whole text bytes new o left h fits none =
    let came : List ℕ = replicate (o.size - left) 0 in
    let payload = came ++ take left bytes in
    let n : length came ≡ o.size - left = length-replicate (o.size - left) 0 in
    let filled : length payload ≡ o.size = omega (arith, length-append came (take left bytes), length-take-le left bytes fits, n, h.missing.2) in
    let item = heard.Command (long_command o.path o.offset o.size) in
    let means : Means text payload item = subst (λ (c : Command). Means text payload (heard.Command c)) (opened_long o payload h.missing.0) (opened_says text payload o h.opened filled) in
    record {
      fits = fits;
      goes = λ _. h.missing.1;
      heard = subst (Consumes ((text ++ 10 ∷ came) ++ take left bytes) (item ∷ [])) (sym none)
          (subst (λ (x : List ℕ). Consumes x (item ∷ []) []) (sym (pieced text came (take left bytes)))
          (consumes_text (text ++ 10 ∷ payload) item (record { line = text; payload = payload; is_line = h.is_line; means = means; spelled = refl })));
      held = empty_line new none;
      idle = none;
    }

-- what a reader holds is nothing, or something that is not ended
found_not_none : (ws : List (List ℕ)) (o : Opening) → found_in ws ≡ line.Payload o → ws ≢ []
found_not_none ws o f e = let both : line.Blank ≡ line.Payload o = ap found_in (sym e) ∙ f in cc

some_line : (text : List ℕ) (o : Opening) → found_in (words text) ≡ line.Payload o → 0 < length text
some_line [] o f = absurd (found_not_none (words []) o f refl)
some_line (b ∷ text) o f = omega arith

short : (payload : Payload) (text : List ℕ) → IsHeldPayload text payload → length (payload_of payload) < (opening_of payload).size
short (Kept o bytes) text h = h.missing.1
short (Skipped o left) text h = omega (arith, h.missing, length-replicate {A = ℕ} (o.size - left) 0)

pub may_begin : (text : List ℕ) (payload : Option Payload) → IsHeld text payload → MayBegin (begun_of text payload)
may_begin text None h some = record { some = some; either = inl h }
may_begin text (Some p) h some = record {
  some = some;
  either = inr (partial_from text (payload_of p) (form_opened text (opening_of p) h.opened) h.is_line
      (subst (λ (n : ℕ). length (payload_of p) < n) (sym (size_opened text (opening_of p) h.opened)) (short p text h)));
}

pub begun_none : (text : List ℕ) (payload : Option Payload) → IsHeld text payload → length text ≡ 0 → begun_of text payload ≡ []
begun_none text None h e = nil_from_length text e
begun_none text (Some p) h e = absurd (omega (arith, e, some_line text (opening_of p) h.opened))

pub begun_some : (text : List ℕ) (payload : Option Payload) → 0 < length text → 0 < length (begun_of text payload)
begun_some text None l = l
begun_some text (Some p) l = omega (arith, length-append text (10 ∷ payload_of p))

pub inside_ends : (begun : List ℕ) → IsUnfinished begun → Ends begun Inside
inside_ends begun u = record { blank = []; begun = begun; are_blank = blank_none; unfinished = u; spelled = refl }

pub inside_is : (line : List ℕ) (payload : Option Payload) (empty : Bool) → IsHeld line payload → empty ≡ eqb (length line) 0 → MatchBool (not empty) (Ends (begun_of line payload) Inside) (begun_of line payload ≡ [])
inside_is line payload true h e = begun_none line payload h (eqb-true (length line) 0 (sym e))
inside_is line payload false h e =
    let some : length line ≡ 0 → ⊥ = eqb-false (length line) 0 (sym e) in
    inside_ends (begun_of line payload) (may_begin line payload h (begun_some line payload (omega (arith, some))))

-- one step after another
pub step_on : (begun bytes mid left : List ℕ) (taken more : ℕ) (hs : List Heard) → Consumes (begun ++ take taken bytes) [] mid → Consumes (mid ++ take more (drop taken bytes)) hs left → Consumes (begun ++ take (taken + more) bytes) hs left
step_on begun bytes mid left taken more hs c d =
    let pieces : (begun ++ take taken bytes) ++ take more (drop taken bytes) ≡ begun ++ take (taken + more) bytes =
    append_assoc begun (take taken bytes) (take more (drop taken bytes)) ∙ ap (λ x. begun ++ x) (sym (take-add taken more bytes))
    in
    subst (λ (x : List ℕ). Consumes x hs left) pieces
    (consumes_on ((begun ++ take taken bytes) ++ take more (drop taken bytes)) [] (mid ++ take more (drop taken bytes)) left hs (consumes_more (begun ++ take taken bytes) [] mid c (take more (drop taken bytes))) d)

-- what a step finds too long is too long behind what was consumed
pub long_on : (begun bytes mid : List ℕ) (taken : ℕ) → Consumes (begun ++ take taken bytes) [] mid → ((rest : List ℕ) → Ends ((mid ++ drop taken bytes) ++ rest) TooLong) → (rest : List ℕ) → Ends ((begun ++ bytes) ++ rest) TooLong
long_on begun bytes mid taken c long rest =
    let behind = drop taken bytes ++ rest in
    let there : Ends (mid ++ behind) TooLong = subst (λ (x : List ℕ). Ends x TooLong) (append_assoc mid (drop taken bytes) rest) (long rest) in
    let here : Ends ((begun ++ take taken bytes) ++ behind) TooLong = c behind [] TooLong there in
    let split : (begun ++ take taken bytes) ++ behind ≡ (begun ++ bytes) ++ rest =
    append_assoc begun (take taken bytes) behind ∙ ap (λ x. begun ++ x) (sym (append_assoc (take taken bytes) (drop taken bytes) rest) ∙ ap (λ x. x ++ rest) (take-append-drop taken bytes)) ∙ sym (append_assoc begun bytes rest)
    in
    subst (λ (x : List ℕ). Ends x TooLong) split here

pub ready_none : (o : Option Heard) (none : Bool) → is_some o ≡ not none → none ≡ true → o ≡ None
ready_none None none e t = refl
ready_none (Some h) none e t = absurd (true≢false (e ∙ ap not t))
