-- What a session hears: a front of what is heard of its input.
use Rattle.std.proofs.Common.{◌≡◌, ℕ, List, [], ◌∷◌, ◌++◌, refl, sym, ◌∙◌, ap}
use Rattle.std.proofs.lemmas.Bool.{cond-false}
use Rattle.dm_proto.specs.Stream.{Ending, Consumes}
use Rattle.dm_proto.specs.Session.{Closing, HearsSession, GoesOn, is_closing, up_to_closing, closing_of}
use Rattle.dm_proto.specs.declared.heard.Heard.{Heard}
use Rattle.dm_proto.proofs.Hearing.{hears_some, hears_once, hears_from}

pub record IsSession (input : List ℕ) : Type 0 where
  pub items : List Heard
  pub closing : Closing
  pub hears : HearsSession input items closing

pub session_some : (input : List ℕ) → IsSession input
session_some input =
    let h = hears_some input in
    record {
      items = up_to_closing h.items;
      closing = closing_of h.items h.ending;
      hears = record { all = h.items; ending = h.ending; hears = h.hears; is_front = refl; ends = refl };
    }

pub session_once : (input : List ℕ) (a b : List Heard) (c d : Closing) → HearsSession input a c → HearsSession input b d → (a ≡ b) × (c ≡ d)
session_once input a b c d p q =
    let same = hears_once input p.all q.all p.ending q.ending p.hears q.hears in (
      p.is_front ∙ ap up_to_closing same.0 ∙ sym q.is_front,
      p.ends ∙ ap (λ (hs : List Heard). closing_of hs p.ending) same.0 ∙ ap (closing_of q.all) same.1 ∙ sym q.ends,
    )

-- items that end no session stand before what ends it
front_on : (items all : List Heard) → GoesOn items → up_to_closing (items ++ all) ≡ items ++ up_to_closing all
front_on [] all g = refl
front_on (h ∷ items) all g = cond-false (is_closing h) _ _ g.0 ∙ ap (λ (x : List Heard). h ∷ x) (front_on items all g.1)

closing_on : (items all : List Heard) (e : Ending) → GoesOn items → closing_of (items ++ all) e ≡ closing_of all e
closing_on [] all e g = refl
closing_on (h ∷ items) all e g = cond-false (is_closing h) _ _ g.0 ∙ closing_on items all e g.1

pub session_from : (input left : List ℕ) (items more : List Heard) (c : Closing) → GoesOn items → Consumes input items left → HearsSession left more c → HearsSession input (items ++ more) c
session_from input left items more c g consumed h = record {
  all = items ++ h.all;
  ending = h.ending;
  hears = hears_from input items left h.all h.ending consumed h.hears;
  is_front = ap (λ (x : List Heard). items ++ x) h.is_front ∙ sym (front_on items h.all g);
  ends = h.ends ∙ sym (closing_on items h.all h.ending g);
}
