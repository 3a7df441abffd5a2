-- What is heard of an input: fronts of it, put together, and that all of it is heard in one way.
use Rattle.std.proofs.Common.{◌≡◌, ◌≢◌, ℕ, zero, suc, ◌-◌, ◌<◌, ◌≤◌, ◌⊎◌, inl, inr, List, [], ◌∷◌, ◌++◌, length, take, drop, refl, sym, ◌∙◌, ap, subst, arith, append_assoc, length-append}
use Rattle.std.proofs.lemmas.Bool.{cases_lt}
use Rattle.std.proofs.lemmas.List.{append-nil, take-append-drop, length-take-le, length-drop, nil_from_length}
use Rattle.std.proofs.lemmas.List.Concat.{flat_map-append}
use Rattle.std.specs.List.{AllByRecursion, flat_map}
use Rattle.dm_base.specs.Limits.{line_limit}
use Rattle.dm_proto.specs.Words.{words, IsLine, IsBlank, HasNoEnd, ended}
use Rattle.dm_proto.specs.Stream.{AreBlank, Begins, Ending, AtEnd, Inside, TooLong, Ends, Hears, Consumes}
use Rattle.dm_proto.specs.declared.heard.Heard.{Heard}
use Rattle.dm_proto.proofs.Lines.{first_line, no_end-take}
use Rattle.dm_proto.proofs.Forms.{Form, form_of, partial_from}
use Rattle.dm_proto.proofs.Fronts.{item, end, Fronts, fronts_once}

all-append : (P : List ℕ → Type 0) (xs ys : List (List ℕ)) → AllByRecursion P xs → AllByRecursion P ys → AllByRecursion P (xs ++ ys)
all-append P [] ys p q = q
all-append P (x ∷ xs) ys p q = (p.0, all-append P xs ys p.1 q)

pub blank_none : AreBlank []
blank_none = record { lines = []; each = tt; spelled = refl }

pub blank_line : (line : List ℕ) → IsBlank line → AreBlank (ended line)
blank_line line b = record { lines = line ∷ []; each = (b, tt); spelled = sym (append-nil (ended line)) }

pub blank_join : (a b : List ℕ) → AreBlank a → AreBlank b → AreBlank (a ++ b)
blank_join a b p q = record {
  lines = p.lines ++ q.lines;
  each = all-append IsBlank p.lines q.lines p.each q.each;
  spelled = ap (λ x. x ++ b) p.spelled ∙ ap (λ x. flat_map ended p.lines ++ x) q.spelled ∙ sym (flat_map-append ended p.lines q.lines);
}

-- blank lines before an input change nothing of what is heard
blank_begins : (blank input : List ℕ) (h : Heard) (rest : List ℕ) → AreBlank blank → Begins input h rest → Begins (blank ++ input) h rest
blank_begins blank input h rest p b = record {
  blank = blank ++ b.blank;
  text = b.text;
  are_blank = blank_join blank b.blank p b.are_blank;
  is_text = b.is_text;
  spelled = ap (λ x. blank ++ x) b.spelled ∙ sym (append_assoc blank b.blank (b.text ++ rest));
}

pub blank_ends : (blank input : List ℕ) (e : Ending) → AreBlank blank → Ends input e → Ends (blank ++ input) e
blank_ends blank input AtEnd p q = blank_join blank input p q
blank_ends blank input Inside p q = record {
  blank = blank ++ q.blank;
  begun = q.begun;
  are_blank = blank_join blank q.blank p q.are_blank;
  unfinished = q.unfinished;
  spelled = ap (λ x. blank ++ x) q.spelled ∙ sym (append_assoc blank q.blank q.begun);
}
blank_ends blank input TooLong p q = record {
  blank = blank ++ q.blank;
  front = q.front;
  rest = q.rest;
  are_blank = blank_join blank q.blank p q.are_blank;
  long = q.long;
  spelled = ap (λ x. blank ++ x) q.spelled ∙ sym (append_assoc blank q.blank (q.front ++ q.rest));
}

blank_hears : (blank input : List ℕ) (items : List Heard) (e : Ending) → AreBlank blank → Hears input items e → Hears (blank ++ input) items e
blank_hears blank input [] e p q = blank_ends blank input e p q
blank_hears blank input (h ∷ hs) e p q = (q.0, blank_begins blank input h q.0 p q.1, q.2)

-- nothing of the input is consumed yet
pub consumes_none : (input : List ℕ) → Consumes input [] input
consumes_none input tail more e h = h

-- blank lines say nothing
pub consumes_blank : (blank : List ℕ) → AreBlank blank → Consumes blank [] []
consumes_blank blank p tail more e h = blank_hears blank tail more e p h

-- a front, and then a front of what it left
pub consumes_on : (input : List ℕ) (hs : List Heard) (left mid : List ℕ) (more : List Heard) → Consumes input hs left → Consumes left more mid → Consumes input (hs ++ more) mid
consumes_on input hs left mid more c d tail later e h =
    subst (λ (x : List Heard). Hears (input ++ tail) x e) (sym (append_assoc hs more later)) (c tail (more ++ later) e (d tail later e h))

-- what follows an input is left behind its front
pub consumes_more : (input : List ℕ) (hs : List Heard) (left : List ℕ) → Consumes input hs left → (tail : List ℕ) → Consumes (input ++ tail) hs (left ++ tail)
consumes_more input hs left c tail further more e h =
    subst (λ (x : List ℕ). Hears x (hs ++ more) e) (sym (append_assoc input tail further))
    (c (tail ++ further) more e (subst (λ (x : List ℕ). Hears x more e) (append_assoc left tail further) h))

-- what was consumed is a front of what is heard
pub hears_from : (input : List ℕ) (hs : List Heard) (left : List ℕ) (more : List Heard) (e : Ending) → Consumes input hs left → Hears left more e → Hears input (hs ++ more) e
hears_from input hs left more e c h =
    subst (λ (x : List ℕ). Hears x (hs ++ more) e) (append-nil input) (c [] more e (subst (λ (x : List ℕ). Hears x more e) (sym (append-nil left)) h))

pub hears_end : (input : List ℕ) (hs : List Heard) (left : List ℕ) (e : Ending) → Consumes input hs left → Ends left e → Hears input hs e
hears_end input hs left e c h = subst (λ (x : List Heard). Hears input x e) (append-nil hs) (hears_from input hs left [] e c h)

-- what is heard of a whole input, and how it ends, is one thing
begins_fronts : (input : List ℕ) (h : Heard) (rest : List ℕ) → Begins input h rest → Fronts input (item h rest)
begins_fronts input h rest b = record {
  blank = b.blank;
  behind = b.text ++ rest;
  are_blank = b.are_blank;
  is = record { text = b.text; is_text = b.is_text; spelled = refl };
  spelled = b.spelled;
}

ends_fronts : (input : List ℕ) (e : Ending) → Ends input e → Fronts input (end e)
ends_fronts input AtEnd q = record { blank = input; behind = []; are_blank = q; is = refl; spelled = sym (append-nil input) }
ends_fronts input Inside q = record { blank = q.blank; behind = q.begun; are_blank = q.are_blank; is = q.unfinished; spelled = q.spelled }
ends_fronts input TooLong q = record {
  blank = q.blank;
  behind = q.front ++ q.rest;
  are_blank = q.are_blank;
  is = record { front = q.front; rest = q.rest; long = q.long; spelled = refl };
  spelled = q.spelled;
}

pub hears_once : (input : List ℕ) (a b : List Heard) (e f : Ending) → Hears input a e → Hears input b f → (a ≡ b) × (e ≡ f)
hears_once input [] [] e f p q =
    let same = fronts_once input (end e) (end f) (ends_fronts input e p) (ends_fronts input f q) in (refl, cc)
hears_once input [] (k ∷ ks) e f p q =
    let same = fronts_once input (end e) (item k q.0) (ends_fronts input e p) (begins_fronts input k q.0 q.1) in absurd (cc)
hears_once input (h ∷ hs) [] e f p q =
    let same = fronts_once input (item h p.0) (end f) (begins_fronts input h p.0 p.1) (ends_fronts input f q) in absurd (cc)
hears_once input (h ∷ hs) (k ∷ ks) e f p q =
    let same = fronts_once input (item h p.0) (item k q.0) (begins_fronts input h p.0 p.1) (begins_fronts input k q.0 q.1) in
    let heads : h ≡ k = cc in
    let rests : q.0 ≡ p.0 = cc in
    let tails = hears_once p.0 hs ks e f p.2 (subst (λ (x : List ℕ). Hears x ks f) rests q.2) in
    (ap (λ x. x ∷ hs) heads ∙ ap (λ x. k ∷ x) tails.0, tails.1)

-- each input is heard in some way
pub record IsHeard (input : List ℕ) : Type 0 where
  pub items : List Heard
  pub ending : Ending
  pub hears : Hears input items ending

is_ended : (input : List ℕ) (ending : Ending) → Ends input ending → IsHeard input
is_ended input ending e = record { items = []; ending = ending; hears = e }

pub long_front : (a rest : List ℕ) → HasNoEnd a → line_limit < length a → Ends (a ++ rest) TooLong
long_front a rest p l = record {
  blank = [];
  front = take (suc line_limit) a;
  rest = drop (suc line_limit) a ++ rest;
  are_blank = blank_none;
  long = record { long = length-take-le (suc line_limit) a (omega arith); no_end = no_end-take (suc line_limit) a p };
  spelled = ap (λ x. x ++ rest) (sym (take-append-drop (suc line_limit) a)) ∙ append_assoc (take (suc line_limit) a) (drop (suc line_limit) a) rest;
}

heard_bare : (input : List ℕ) → HasNoEnd input → IsHeard input
heard_bare input p =
    elim (cases_lt line_limit (length input)) [
      | inl l ↦ is_ended input TooLong (subst (λ (x : List ℕ). Ends x TooLong) (append-nil input) (long_front input [] p l))
      | inr fits ↦ elim (cases_lt 0 (length input)) [
        | inl some ↦ is_ended input Inside (record {
          blank = [];
          begun = input;
          are_blank = blank_none;
          unfinished = record { some = some; either = inl (record { fits = fits; no_end = p }) };
          spelled = refl;
        })
        | inr none ↦ is_ended input AtEnd (subst AreBlank (sym (nil_from_length input (omega arith))) blank_none)
      ]
    ]

settled_words : (ws : List (List ℕ)) → (ws ≡ []) ⊎ (ws ≢ [])
settled_words [] = inl refl
settled_words (w ∷ ws) = inr (λ e. cc)

-- all of what comes behind
abbrev HeardBelow : ℕ → Type 0
HeardBelow n = (input : List ℕ) → length input < n → IsHeard input

-- a line and its payload, and then what is heard behind them
pub hears_whole : (text rest : List ℕ) (form : Form text) (items : List Heard) (ending : Ending) → IsLine text → form.size ≤ length rest → Hears (drop form.size rest) items ending
    → Hears (text ++ 10 ∷ rest) (form.hear (take form.size rest) ∷ items) ending
hears_whole text rest form items ending is_line whole later =
    let payload = take form.size rest in
    let behind = drop form.size rest in (
      behind,
      record {
        blank = [];
        text = text ++ 10 ∷ payload;
        are_blank = blank_none;
        is_text = record {
          line = text;
          payload = payload;
          is_line = is_line;
          means = form.heard payload (length-take-le form.size rest whole);
          spelled = refl;
        };
        spelled = ap (λ x. text ++ 10 ∷ x) (sym (take-append-drop form.size rest)) ∙ sym (append_assoc text (10 ∷ payload) behind);
      },
      later,
    )

-- a line and less than its payload
pub hears_inside : (text rest : List ℕ) (form : Form text) → IsLine text → length rest < form.size → Hears (text ++ 10 ∷ rest) [] Inside
hears_inside text rest form is_line missing = record {
  blank = [];
  begun = text ++ 10 ∷ rest;
  are_blank = blank_none;
  unfinished = record {
    some = omega (arith, length-append text (10 ∷ rest));
    either = inr (partial_from text rest form is_line missing);
  };
  spelled = refl;
}

heard_text : (n : ℕ) → HeardBelow n → (line rest : List ℕ) → IsLine line → words line ≢ [] → length rest < n → IsHeard (line ++ 10 ∷ rest)
heard_text n below line rest is_line some small =
    let form = form_of line some in
    elim (cases_lt (length rest) form.size) [
      | inl missing ↦ is_ended (line ++ 10 ∷ rest) Inside (hears_inside line rest form is_line missing)
      | inr whole ↦
          let later = below (drop form.size rest) (omega (arith, length-drop form.size rest)) in
          record {
            items = form.hear (take form.size rest) ∷ later.items;
            ending = later.ending;
            hears = hears_whole line rest form later.items later.ending is_line whole later.hears;
          }
    ]

heard_line : (n : ℕ) → HeardBelow n → (line rest : List ℕ) → IsLine line → length rest < n → IsHeard (line ++ 10 ∷ rest)
heard_line n below line rest is_line small =
    elim (settled_words (words line)) [
      | inl none ↦
          let later = below rest small in
          record {
            items = later.items;
            ending = later.ending;
            hears = subst (λ (x : List ℕ). Hears x later.items later.ending) (append_assoc line (10 ∷ []) rest)
                (blank_hears (ended line) rest later.items later.ending (blank_line line (record { is_line = is_line; no_word = none })) later.hears);
          }
      | inr some ↦ heard_text n below line rest is_line some small
    ]

is_heard_below : (n : ℕ) → HeardBelow n
is_heard_below zero input small = absurd (omega arith)
is_heard_below (suc n) input small =
    elim (first_line input) [
      | inl f ↦ elim (cases_lt line_limit (length f.0)) [
        | inl l ↦ is_ended input TooLong (subst (λ (x : List ℕ). Ends x TooLong) (sym f.2.spelled) (long_front f.0 (10 ∷ f.1) f.2.no_end l))
        | inr fits ↦ subst IsHeard (sym f.2.spelled)
            (heard_line n (is_heard_below n) f.0 f.1 (record { fits = fits; no_end = f.2.no_end }) (omega (arith, ap length f.2.spelled, length-append f.0 (10 ∷ f.1))))
      ]
      | inr p ↦ heard_bare input p
    ]

pub hears_some : (input : List ℕ) → IsHeard input
hears_some input = is_heard_below (suc (length input)) input (omega arith)

-- what is left behind the front of a list that is in two parts
drop_behind : (a b : List ℕ) (n : ℕ) → length a ≤ n → drop n (a ++ b) ≡ drop (n - length a) b
drop_behind [] b n l = ap (λ (k : ℕ). drop k b) (omega arith)
drop_behind (x ∷ a) b zero l = absurd (omega (arith, l))
drop_behind (x ∷ a) b (suc n) l = drop_behind a b n (omega (arith, l)) ∙ ap (λ (k : ℕ). drop k b) (omega arith)

-- of a payload that its command doesn't hold any bytes may stand for others
pub hears_swapped : (text x y tail : List ℕ) (form : Form text) (more : List Heard) (e : Ending) → IsLine text → ((p q : List ℕ) → form.hear p ≡ form.hear q) → length x ≡ length y → length y ≤ form.size
    → Hears (text ++ 10 ∷ (y ++ tail)) more e → Hears (text ++ 10 ∷ (x ++ tail)) more e
hears_swapped text x y tail form more e is_line plain same within h =
    let lx : length (x ++ tail) ≡ length (y ++ tail) = omega (arith, length-append x tail, length-append y tail, same) in
    elim (cases_lt (length (y ++ tail)) form.size) [
      | inl missing ↦
          let short : length (x ++ tail) < form.size = omega (arith, lx, missing) in
          let once = hears_once (text ++ 10 ∷ (y ++ tail)) [] more Inside e (hears_inside text (y ++ tail) form is_line missing) h in
          subst (λ (z : Ending). Hears (text ++ 10 ∷ (x ++ tail)) more z) once.1
          (subst (λ (z : List Heard). Hears (text ++ 10 ∷ (x ++ tail)) z Inside) once.0 (hears_inside text (x ++ tail) form is_line short))
      | inr whole ↦
          let long : form.size ≤ length (x ++ tail) = omega (arith, lx, whole) in
          let fits : length x ≤ form.size = omega (arith, same, within) in
          let later = hears_some (drop form.size (y ++ tail)) in
          let there = hears_whole text (y ++ tail) form later.items later.ending is_line whole later.hears in
          let once = hears_once (text ++ 10 ∷ (y ++ tail)) _ more later.ending e there h in
          let behind : drop form.size (y ++ tail) ≡ drop form.size (x ++ tail) = drop_behind y tail form.size within ∙ ap (λ (n : ℕ). drop (form.size - n) tail) (sym same) ∙ sym (drop_behind x tail form.size fits) in
          let here = hears_whole text (x ++ tail) form later.items later.ending is_line long (subst (λ (z : List ℕ). Hears z later.items later.ending) behind later.hears) in
          let first : form.hear (take form.size (x ++ tail)) ∷ later.items ≡ more = ap (λ (z : Heard). z ∷ later.items) (plain (take form.size (x ++ tail)) (take form.size (y ++ tail))) ∙ once.0 in
          subst (λ (z : Ending). Hears (text ++ 10 ∷ (x ++ tail)) more z) once.1 (subst (λ (z : List Heard). Hears (text ++ 10 ∷ (x ++ tail)) z later.ending) first here)
    ]
