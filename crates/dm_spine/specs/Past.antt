-- Numbered entries, the names that they are about, and what a past is.
use Rattle.std.specs.Prelude.{◌≡◌, ℕ, ◌+◌, ◌<◌, ◌≤◌, ◌⊎◌, Bool, true, false, cond, ◌||◌, List, [], ◌∷◌, length, filter, nat_lt, slice_get, Some}

-- What names and entries mean, for the value S that a spine was begun with.
pub record Meaning (S N E : Type 0) : Type 1 where
  -- names can be told apart
  pub same : N → N → Bool
  -- the names that are there from the beginning; the homes are among them
  pub fixed : S → List N
  -- whether the entry is about the name
  pub about : E → N → Bool
  -- the one name under which the entry is counted
  pub home : E → N
  -- the names that the entry makes, which may speak of its number
  pub makes : ℕ → E → List N
  -- whether the entry is the name's last one
  pub ends : E → N → Bool
  -- the name whose chain shows whether this name was made before
  pub maker : N → N
  -- what the entries before it must show, those of other names too
  pub needs : S → List (ℕ × E) → E → Type 0
  -- that the entry may come after this chain of the name
  pub follows : S → N → List (ℕ × E) → E → Type 0

module _ {A : Type 0} where
  abbrev pub In : A → List A → Type 0
  In a [] = ⊥
  In a (x ∷ xs) = (a ≡ x) ⊎ In a xs

module _ {E : Type 0} where
  -- the numbers rise, from low on
  abbrev pub Rises : ℕ → List (ℕ × E) → Type 0
  Rises low [] = Unit {0}
  Rises low (a ∷ xs) = (low ≤ a.0) × Rises (a.0 + 1) xs

  -- the entries before the number n
  abbrev pub below : ℕ → List (ℕ × E) → List (ℕ × E)
  below n xs = filter (λ a. nat_lt a.0 n) xs

  -- n is above the number of each entry
  abbrev pub IsAbove : ℕ → List (ℕ × E) → Type 0
  IsAbove n xs = (a : ℕ × E) → In a xs → a.0 < n

  -- the entry put in its place by its number; where the number is there already, nothing changes
  abbrev pub insert : ℕ × E → List (ℕ × E) → List (ℕ × E)
  insert a [] = a ∷ []
  insert a (b ∷ bs) = cond (nat_lt a.0 b.0) (a ∷ (b ∷ bs)) (cond (nat_lt b.0 a.0) (b ∷ insert a bs) (b ∷ bs))

  abbrev pub union : List (ℕ × E) → List (ℕ × E) → List (ℕ × E)
  union [] ys = ys
  union (a ∷ xs) ys = insert a (union xs ys)

module _ {S N E : Type 0} (m : Meaning S N E) where
  abbrev pub has : N → List N → Bool
  has x [] = false
  has x (y ∷ ys) = m.same x y || has x ys

  -- the entries about the name x
  abbrev pub chain : N → List (ℕ × E) → List (ℕ × E)
  chain x xs = filter (λ a. m.about a.1 x) xs

  -- how many entries are at home at h
  abbrev pub at_home : N → List (ℕ × E) → ℕ
  at_home h xs = length (filter (λ a. m.same (m.home a.1) h) xs)

  -- some entry made the name
  abbrev pub Made : N → List (ℕ × E) → Type 0
  Made x xs = (a : ℕ × E) × In a xs × In x (m.makes a.0 a.1)

  -- xs is a part of the history log: with an entry it has each earlier one about the same name
  pub record IsPart (xs log : List (ℕ × E)) : Type 0 where
    pub rises : Rises 0 xs
    pub ordered : Rises 0 log
    pub within : (a : ℕ × E) → In a xs → In a log
    pub chained : (x : N) (a b : ℕ × E) → In a xs → In b log → b.0 < a.0
        → m.about a.1 x ≡ true → m.about b.1 x ≡ true → In b xs

  -- the entry may come after the entries xs
  pub record MayFollow (p : S) (xs : List (ℕ × E)) (e : E) : Type 0 where
    pub needed : m.needs p xs e
    pub followed : (x : N) → m.about e x ≡ true → m.follows p x (chain x xs) e

  -- each entry may come after those before it
  abbrev pub Legal : S → List (ℕ × E) → Type 0
  Legal p xs = (n : ℕ) (e : E) → In (n, e) xs → MayFollow p (below n xs) e

  -- one entry at each number, and one entry at each place of each name's chain
  pub record Agree (xs ys : List (ℕ × E)) : Type 0 where
    pub numbers : (a b : ℕ × E) → In a xs → In b ys → a.0 ≡ b.0 → a ≡ b
    pub places : (x : N) (i : ℕ) (a b : ℕ × E)
        → slice_get (chain x xs) i ≡ Some a → slice_get (chain x ys) i ≡ Some b → a ≡ b

-- What every meaning owes.
pub record Lawful {S N E : Type 0} (m : Meaning S N E) : Type 0 where
  pub same_is : (x y : N) → m.same x y ≡ true → x ≡ y
  pub same_self : (x : N) → m.same x x ≡ true
  -- an entry is about its home, what it ends, and the makers of what it makes
  pub home_about : (e : E) → m.about e (m.home e) ≡ true
  pub ends_about : (e : E) (x : N) → m.ends e x ≡ true → m.about e x ≡ true
  pub makes_about : (n : ℕ) (e : E) (x : N) → In x (m.makes n e) → m.about e (m.maker x) ≡ true
  -- a name that is made is neither fixed nor a home
  pub makes_loose : (p : S) (n : ℕ) (e : E) (x : N) → In x (m.makes n e) → In x (m.fixed p) → ⊥
  pub homes_stay : (n : ℕ) (e f : E) → In (m.home f) (m.makes n e) → ⊥
  pub fixed_few : (p : S) → length (m.fixed p) ≤ 32768
  -- between two legal pasts, what an entry needs stays true in the larger, where the chains of its own names are the same
  pub needs_grow : (p : S) (xs ys : List (ℕ × E)) (e : E) → IsPart m xs ys → Legal m p xs → Legal m p ys
      → ((x : N) → m.about e x ≡ true → chain m x xs ≡ chain m x ys) → m.needs p xs e → m.needs p ys e
