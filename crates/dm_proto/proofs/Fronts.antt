-- How an input goes on behind its blank lines, and that it does so in one way only.
use Rattle.std.proofs.Common.{◌≡◌, ◌≢◌, ℕ, ◌+◌, inl, inr, List, [], ◌∷◌, ◌++◌, length, take, drop, refl, sym, ◌∙◌, ap, subst, arith, append_assoc, length-append}
use Rattle.std.proofs.lemmas.List.{take_at, drop_at}
use Rattle.std.specs.List.{AllByRecursion, flat_map}
use Rattle.dm_proto.specs.Words.{words, IsLine, IsBlank, ended}
use Rattle.dm_proto.specs.Grammar.{Says}
use Rattle.dm_proto.specs.Stream.{Means, IsText, AreBlank, IsPartial, IsUnfinished, IsLong, Ending, AtEnd, Inside, TooLong}
use Rattle.dm_proto.specs.declared.heard.Heard.{Heard}
use Rattle.dm_proto.specs.declared.heard.Heard.TheVariants as heard
use Rattle.dm_proto.proofs.Lines.{same_line, no_end_inside, no_end_front}
use Rattle.dm_proto.proofs.Forms.{form_of, says_some}

-- what comes behind the blank lines
pub data Front : Type 0 where
  item : (heard : Heard) (rest : List ℕ) → Front
  end : (ending : Ending) → Front

-- the front of an input that has no blank line before it
pub record IsItem (input : List ℕ) (heard : Heard) (rest : List ℕ) : Type 0 where
  pub text : List ℕ
  pub is_text : IsText text heard
  pub spelled : input ≡ text ++ rest

pub record IsLongFront (input : List ℕ) : Type 0 where
  pub front : List ℕ
  pub rest : List ℕ
  pub long : IsLong front
  pub spelled : input ≡ front ++ rest

abbrev pub Is : List ℕ → Front → Type 0
Is input (item heard rest) = IsItem input heard rest
Is input (end AtEnd) = input ≡ []
Is input (end Inside) = IsUnfinished input
Is input (end TooLong) = IsLongFront input

-- a line with a line feed behind it, and a word in it
pub record HasLine (input : List ℕ) : Type 0 where
  pub line : List ℕ
  pub payload : List ℕ
  pub is_line : IsLine line
  pub some : words line ≢ []
  pub spelled : input ≡ line ++ 10 ∷ payload

means_some : (line payload : List ℕ) (heard : Heard) → Means line payload heard → words line ≢ []
means_some line payload (heard.Command c) m = says_some line payload c m
means_some line payload heard.Syntax m = m.0.some

abbrev item_line : (input : List ℕ) (heard : Heard) (rest : List ℕ) → IsItem input heard rest → HasLine input
item_line input heard rest i = record {
  line = i.is_text.line;
  payload = i.is_text.payload ++ rest;
  is_line = i.is_text.is_line;
  some = means_some _ _ _ i.is_text.means;
  spelled = i.spelled ∙ ap (λ x. x ++ rest) i.is_text.spelled ∙ append_assoc i.is_text.line (10 ∷ i.is_text.payload) rest;
}

abbrev partial_line : (input : List ℕ) → IsPartial input → HasLine input
partial_line input p = record {
  line = p.line;
  payload = p.payload;
  is_line = p.is_line;
  some = says_some p.line (p.payload ++ p.missing) p.command p.says;
  spelled = p.spelled;
}

-- a front is no blank line
line_not_blank : (input m z : List ℕ) → HasLine input → IsBlank m → input ≡ m ++ 10 ∷ z → ⊥
line_not_blank input m z h b e =
    let same = same_line h.line m h.payload z h.is_line.no_end b.is_line.no_end (sym h.spelled ∙ e) in
    h.some (ap words same.0 ∙ b.no_word)

not_blank : (input : List ℕ) (front : Front) (m z : List ℕ) → Is input front → IsBlank m → input ≡ m ++ 10 ∷ z → ⊥
not_blank input (item heard rest) m z i b e = line_not_blank input m z (item_line input heard rest i) b e
not_blank input (end AtEnd) m z i b e = no_end_inside [] m z tt (sym i ∙ e)
not_blank input (end Inside) m z i b e =
    elim i.either [
      | inl l ↦ no_end_inside input m z l.no_end e
      | inr p ↦ line_not_blank input m z (partial_line input p) b e
    ]
not_blank input (end TooLong) m z i b e = no_end_front i.front m i.rest z i.long.no_end (omega (arith, i.long.long, b.is_line.fits)) (sym i.spelled ∙ e)

-- behind the blank lines of two spellings comes the same
pub same_front : (ls ms : List (List ℕ)) (x y : List ℕ) (f g : Front) → AllByRecursion IsBlank ls → AllByRecursion IsBlank ms → Is x f → Is y g → flat_map ended ls ++ x ≡ flat_map ended ms ++ y → x ≡ y
same_front [] [] x y f g p q i j e = e
same_front [] (m ∷ ms) x y f g p q i j e =
    absurd (not_blank x f m (flat_map ended ms ++ y) i q.0 (e ∙ append_assoc (ended m) (flat_map ended ms) y ∙ append_assoc m (10 ∷ []) (flat_map ended ms ++ y)))
same_front (l ∷ ls) [] x y f g p q i j e =
    absurd (not_blank y g l (flat_map ended ls ++ x) j p.0 (sym e ∙ append_assoc (ended l) (flat_map ended ls) x ∙ append_assoc l (10 ∷ []) (flat_map ended ls ++ x)))
same_front (l ∷ ls) (m ∷ ms) x y f g p q i j e =
    let left : (ended l ++ flat_map ended ls) ++ x ≡ l ++ 10 ∷ (flat_map ended ls ++ x) = append_assoc (ended l) (flat_map ended ls) x ∙ append_assoc l (10 ∷ []) (flat_map ended ls ++ x) in
    let right : (ended m ++ flat_map ended ms) ++ y ≡ m ++ 10 ∷ (flat_map ended ms ++ y) = append_assoc (ended m) (flat_map ended ms) y ∙ append_assoc m (10 ∷ []) (flat_map ended ms ++ y) in
    let both = same_line l m (flat_map ended ls ++ x) (flat_map ended ms ++ y) p.0.is_line.no_end q.0.is_line.no_end (sym left ∙ e ∙ right) in
    same_front ls ms x y f g p.1 q.1 i j both.1

-- a front with a line that ends is none of the others
line_not_end : (input : List ℕ) → HasLine input → input ≡ [] → ⊥
line_not_end input h e = no_end_inside [] h.line h.payload tt (sym e ∙ h.spelled)

line_not_short : (input : List ℕ) → HasLine input → IsLine input → ⊥
line_not_short input h l = no_end_inside input h.line h.payload l.no_end h.spelled

line_not_long : (input : List ℕ) → HasLine input → IsLongFront input → ⊥
line_not_long input h l = no_end_front l.front h.line l.rest h.payload l.long.no_end (omega (arith, l.long.long, h.is_line.fits)) (sym l.spelled ∙ h.spelled)

same_parts : (a b x y : List ℕ) → length a ≡ length b → a ++ x ≡ b ++ y → (a ≡ b) × (x ≡ y)
same_parts a b x y l e = (
  sym (take_at a x (length a) refl) ∙ ap (take (length a)) e ∙ take_at b y (length a) (sym l),
  sym (drop_at a x (length a) refl) ∙ ap (drop (length a)) e ∙ drop_at b y (length a) (sym l),
)

-- two texts at the front of one input are heard as the same
same_item : (input : List ℕ) (h k : Heard) (r s : List ℕ) → IsItem input h r → IsItem input k s → item h r ≡ item k s
same_item input h k r s i j =
    let a = item_line input h r i in
    let b = item_line input k s j in
    let both = same_line a.line b.line a.payload b.payload a.is_line.no_end b.is_line.no_end (sym a.spelled ∙ b.spelled) in
    let form = form_of a.line a.some in
    let left = form.only i.is_text.payload h i.is_text.means in
    let right = form.only j.is_text.payload k (subst (λ (l : List ℕ). Means l j.is_text.payload k) (sym both.0) j.is_text.means) in
    let payloads = same_parts i.is_text.payload j.is_text.payload r s (left.0 ∙ sym right.0) both.1 in
    let heard : h ≡ k = left.1 ∙ ap form.hear payloads.0 ∙ sym right.1 in
    ap (λ x. item x r) heard ∙ ap (item k) payloads.1

item_not_partial : (input : List ℕ) (h : Heard) (r : List ℕ) → IsItem input h r → IsPartial input → ⊥
item_not_partial input h r i p =
    let a = item_line input h r i in
    let both = same_line a.line p.line a.payload p.payload a.is_line.no_end p.is_line.no_end (sym a.spelled ∙ p.spelled) in
    let form = form_of a.line a.some in
    let left = form.only i.is_text.payload h i.is_text.means in
    let whole = form.only (p.payload ++ p.missing) (heard.Command p.command) (subst (λ (l : List ℕ). Says l (p.payload ++ p.missing) p.command) (sym both.0) p.says) in
    let lengths : length i.is_text.payload + length r ≡ length p.payload = sym (length-append i.is_text.payload r) ∙ ap length both.1 in
    omega (arith, left.0, whole.0, lengths, p.some, length-append p.payload p.missing)

partial_not_long : (input : List ℕ) → IsUnfinished input → IsLongFront input → ⊥
partial_not_long input u l =
    elim u.either [
      | inl s ↦ omega (arith, s.fits, l.long.long, ap length l.spelled, length-append l.front l.rest)
      | inr p ↦ line_not_long input (partial_line input p) l
    ]

item_not_unfinished : (input : List ℕ) (h : Heard) (r : List ℕ) → IsItem input h r → IsUnfinished input → ⊥
item_not_unfinished input h r i u =
    elim u.either [
      | inl s ↦ line_not_short input (item_line input h r i) s
      | inr p ↦ item_not_partial input h r i p
    ]

long_not_end : (input : List ℕ) → IsLongFront input → input ≡ [] → ⊥
long_not_end input l e = omega (arith, l.long.long, ap length l.spelled, ap length e, length-append l.front l.rest)

unfinished_not_end : (input : List ℕ) → IsUnfinished input → input ≡ [] → ⊥
unfinished_not_end input u e = omega (arith, u.some, ap length e)

-- an input with no blank line before it has one front
one_front : (input : List ℕ) (f g : Front) → Is input f → Is input g → f ≡ g
one_front input (item h r) (item k s) i j = same_item input h k r s i j
one_front input (item h r) (end AtEnd) i j = absurd (line_not_end input (item_line input h r i) j)
one_front input (item h r) (end Inside) i j = absurd (item_not_unfinished input h r i j)
one_front input (item h r) (end TooLong) i j = absurd (line_not_long input (item_line input h r i) j)
one_front input (end AtEnd) (item k s) i j = absurd (line_not_end input (item_line input k s j) i)
one_front input (end AtEnd) (end AtEnd) i j = refl
one_front input (end AtEnd) (end Inside) i j = absurd (unfinished_not_end input j i)
one_front input (end AtEnd) (end TooLong) i j = absurd (long_not_end input j i)
one_front input (end Inside) (item k s) i j = absurd (item_not_unfinished input k s j i)
one_front input (end Inside) (end AtEnd) i j = absurd (unfinished_not_end input i j)
one_front input (end Inside) (end Inside) i j = refl
one_front input (end Inside) (end TooLong) i j = absurd (partial_not_long input i j)
one_front input (end TooLong) (item k s) i j = absurd (line_not_long input (item_line input k s j) i)
one_front input (end TooLong) (end AtEnd) i j = absurd (long_not_end input i j)
one_front input (end TooLong) (end Inside) i j = absurd (partial_not_long input j i)
one_front input (end TooLong) (end TooLong) i j = refl

-- blank lines, and then a front
pub record Fronts (input : List ℕ) (front : Front) : Type 0 where
  pub blank : List ℕ
  pub behind : List ℕ
  pub are_blank : AreBlank blank
  pub is : Is behind front
  pub spelled : input ≡ blank ++ behind

pub fronts_once : (input : List ℕ) (f g : Front) → Fronts input f → Fronts input g → f ≡ g
fronts_once input f g a b =
    let left : flat_map ended a.are_blank.lines ++ a.behind ≡ input = ap (λ x. x ++ a.behind) (sym a.are_blank.spelled) ∙ sym a.spelled in
    let right : input ≡ flat_map ended b.are_blank.lines ++ b.behind = b.spelled ∙ ap (λ x. x ++ b.behind) b.are_blank.spelled in
    let same = same_front a.are_blank.lines b.are_blank.lines a.behind b.behind f g a.are_blank.each b.are_blank.each a.is b.is (left ∙ right) in
    one_front b.behind f g (subst (λ (x : List ℕ). Is x f) same a.is) b.is
