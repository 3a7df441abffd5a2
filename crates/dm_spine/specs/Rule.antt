-- The rule that every atomic step keeps, and what each step tells the pass that made it.
use Rattle.std.specs.Prelude.{◌≡◌, ℕ, ◌<◌, ◌≤◌, ◌⊎◌, true, not, List, [], ◌∷◌, ◌++◌, length, filter}
use mathlib.Core.Option.{some}
use lib.ListN.{get_elem?}
use Rattle.atomic_table.specs.Table.{State, Me}
use Rattle.atomic_table.specs.Seated.{TableId}
use Rattle.dm_spine.specs.Past.{Meaning, In, Rises, IsAbove, has, chain, at_home, union, Made, IsPart, MayFollow, Legal}
use Rattle.dm_spine.specs.declared.rule.View.{View}

module _ {E N : Type 0} where
  abbrev pub view : List (ℕ × E) → List N → View E N
  view xs names = record { seen = xs; keeps = names }

  -- what a seat with one view knows
  abbrev pub sight : List (View E N) → View E N
  sight [] = view [] []
  sight (v ∷ vs) = v

  -- all that two passes had seen, and all names of both
  abbrev pub joined : View E N → View E N → View E N
  joined v w = view (union v.seen w.seen) (v.keeps ++ w.keeps)

module _ {S N E : Type 0} (m : Meaning S N E) where
  -- the names xs but for these
  abbrev pub without : List N → List N → List N
  without names xs = filter (λ x. not (has m x names)) xs

  -- the view after a draw: names that the entry ends are gone, those that it makes are kept
  abbrev pub drawn : ℕ → E → View E N → View E N
  drawn n e v = view (v.seen ++ (n, e) ∷ []) (filter (λ x. not (m.ends e x)) v.keeps ++ m.makes n e)

  -- what a pass knows, where log is the whole history
  pub record IsView (p : S) (log : List (ℕ × E)) (v : View E N) : Type 0 where
    pub part : IsPart m v.seen log
    pub legal : Legal m p v.seen
    -- it knows the whole chain of each name that it keeps, and none of these has ended
    pub whole : (x : N) → In x v.keeps → (b : ℕ × E) → In b log → m.about b.1 x ≡ true → In b v.seen
    pub lives : (x : N) → In x v.keeps → (b : ℕ × E) → In b log → m.ends b.1 x ≡ true → ⊥
    -- each is fixed, or an entry that it has seen made it
    pub rooted : (x : N) → In x v.keeps → In x (m.fixed p) ⊎ Made m x v.seen

  -- What holds of the whole history. No list of it is stored
  pub record IsLog (p : S) (log : List (ℕ × E)) : Type 0 where
    pub rises : Rises 0 log
    pub low : IsAbove (length log) log
    pub housed : (a : ℕ × E) → In a log → In (m.home a.1) (m.fixed p)
    pub few : (h : N) → at_home m h log ≤ 281474976710656
    pub grown : (a : ℕ × E) (x : N) → In a log → m.about a.1 x ≡ true → In x (m.fixed p) ⊎ Made m x log

  -- The word counts the history log. A seat has one view, two while a join is under way, and none when it is spent
  pub record CountsLog (p : S) (log : List (ℕ × E)) (words : List ℕ) (seats : List (List (View E N))) : Type 0 where
    pub word : words ≡ length log ∷ []
    pub history : IsLog p log
    pub known : (i : ℕ) (vs : List (View E N)) (v : View E N) → get_elem? seats i ≡ some vs → In v vs → IsView p log v
    -- a name has one seat at most that keeps it
    pub one : (i j : ℕ) (vs ws : List (View E N)) (v w : View E N) (x : N)
        → get_elem? seats i ≡ some vs → get_elem? seats j ≡ some ws → In v vs → In w ws → In x v.keeps → In x w.keeps → i ≡ j
    -- also while a join is under way
    pub pair : (i : ℕ) (v w : View E N) (x : N) → get_elem? seats i ≡ some (v ∷ (w ∷ [])) → In x v.keeps → In x w.keeps → ⊥

  -- the rule: there is a whole history that the word counts, and of which each pass knows a part
  abbrev pub CountsHistory : S → State (Unit {0}) (List (View E N)) → Type 0
  CountsHistory p s = (log : List (ℕ × E)) × CountsLog p log s.words s.views

  -- what every pass knows of its own past and names
  pub record IsSound (p : S) (v : View E N) : Type 0 where
    pub rises : Rises 0 v.seen
    pub lives : (x : N) → In x v.keeps → (b : ℕ × E) → In b v.seen → m.ends b.1 x ≡ true → ⊥
    pub rooted : (x : N) → In x v.keeps → In x (m.fixed p) ⊎ Made m x v.seen

  -- the pass may draw the entry
  pub record MayDraw (p : S) (e : E) (v : View E N) : Type 0 where
    pub keeps : (x : N) → m.about e x ≡ true → In x v.keeps
    -- whichever number it will get
    pub fresh : (n : ℕ) (x : N) → IsAbove n v.seen → In x (m.makes n e) → Made m x v.seen → ⊥
    pub fits : MayFollow m p v.seen e
    pub room : at_home m (m.home e) v.seen < 281474976710656

  -- the entry was drawn under the number n
  pub record Draws (p : S) (e : E) (v : View E N) (n : ℕ) (w : View E N) : Type 0 where
    pub after : w ≡ drawn n e v
    pub above : IsAbove n v.seen
    pub few : n < 9223372036854775808
    -- a pass that keeps every fixed name knows the whole history, and so which number is next
    pub next : ((x : N) → In x (m.fixed p) → In x v.keeps) → n ≡ length v.seen
    pub legal : Legal m p w.seen
    pub sound : IsSound p w

  -- What two passes of one spine had seen fits together: each past is a part of both, and each pass knew the whole
  -- chain of each name that it kept
  pub record Together (p : S) (v w : View E N) : Type 0 where
    pub left : (a : ℕ × E) → In a v.seen → In a (union v.seen w.seen)
    pub right : (a : ℕ × E) → In a w.seen → In a (union v.seen w.seen)
    pub left_part : IsPart m v.seen (union v.seen w.seen)
    pub right_part : IsPart m w.seen (union v.seen w.seen)
    pub mine : (x : N) → In x v.keeps → chain m x (union v.seen w.seen) ≡ chain m x v.seen
    pub theirs : (x : N) → In x w.keeps → chain m x (union v.seen w.seen) ≡ chain m x w.seen
    -- no name was kept by both
    pub apart : (x : N) → In x v.keeps → In x w.keeps → ⊥
    pub legal : Legal m p (union v.seen w.seen)
    pub sound : IsSound p (joined v w)

  -- the name x went from the pass with the view v to that with the view w
  pub record Gives (p : S) (x : N) (v w v' w' : View E N) : Type 0 where
    pub left : v' ≡ view v.seen (without (x ∷ []) v.keeps)
    pub given : w' ≡ joined w (view v.seen (x ∷ []))
    pub together : Together p w (view v.seen (x ∷ []))

module _ {V : Type 0} where
  -- the seat is one of the table, whose one word counts the history; it has one view and no slot
  pub record IsSeated (table seat : TableId) (me : Me (Unit {0}) (List V)) : Type 0 where
    pub same : seat ≡ table
    pub counted : table.words ≡ 1
    pub bare : me.1 ≡ []
    pub single : length me.0 ≡ 1
