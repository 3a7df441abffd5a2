-- Views of seats: what becomes of them where a seat's views change, and what each kind of view keeps.
use Rattle.std.proofs.Common.{◌≡◌, ℕ, zero, suc, ◌⊎◌, true, false, not, List, [], ◌∷◌, ◌++◌, length, refl, sym, ap, ◌∙◌, subst, inl, inr, ⊎_elim, arith}
use Rattle.std.proofs.lemmas.Bool.{true≢false, or_cases, or_left, or_right, not-true, not_from_false}
use mathlib.Core.Option.{some, some-injective, some-ne-none}
use lib.ListN.{get_elem?}
use Rattle.dm_spine.specs.Past.{Meaning, Lawful, In, has}
use Rattle.dm_spine.specs.Rule.{view, sight, without, IsView, IsSound}
use Rattle.dm_spine.specs.declared.rule.View.{View}
use Rattle.dm_spine.proofs.Lists.{in_filter, filter_in}

module _ {A : Type 0} where
  -- a list of one
  pub in_one : (a b : A) → In a (b ∷ []) → a ≡ b
  in_one a b (inl e) = e
  in_one a b (inr h) = absurd h

  pub at_end : (l : List A) (a b : A) (j : ℕ) → get_elem? (l ++ a ∷ []) j ≡ some b → (get_elem? l j ≡ some b) ⊎ ((j ≡ length l) × (a ≡ b))
  at_end [] a b zero e = inr (refl, some-injective a b e)
  at_end [] a b (suc j) e = absurd (some-ne-none b (sym e))
  at_end (x ∷ xs) a b zero e = inl e
  at_end (x ∷ xs) a b (suc j) e = ⊎_elim (λ t. inl t) (λ t. inr (ap suc t.0, t.1)) (at_end xs a b j e)

  pub not_two : (a b c : A) → a ∷ [] ≡ b ∷ (c ∷ []) → ⊥
  not_two a b c e = let l : length (a ∷ []) ≡ length (b ∷ (c ∷ [])) = ap length e in omega arith

module _ {E N : Type 0} where
  pub single_view : (vs : List (View E N)) → length vs ≡ 1 → vs ≡ sight vs ∷ []
  single_view [] e = absurd (omega arith)
  single_view (v ∷ []) e = refl
  single_view (v ∷ (u ∷ us)) e = absurd (omega arith)

module _ {S N E : Type 0} {m : Meaning S N E} (ok : Lawful m) where
  has_first : (x y : N) (ys : List N) → m.same x y ≡ true → has m x (y ∷ ys) ≡ true
  has_first x y ys e = or_left (m.same x y) (has m x ys) e

  -- a name that the list has by test is in it, and the other way round
  pub has_in : (x : N) (xs : List N) → has m x xs ≡ true → In x xs
  has_in x [] h = absurd (true≢false (sym h))
  has_in x (y ∷ ys) h = ⊎_elim (λ e. inl (ok.same_is x y e)) (λ t. inr (has_in x ys t)) (or_cases (m.same x y) (has m x ys) h)

  pub has_it : (x : N) (xs : List N) → In x xs → has m x xs ≡ true
  has_it x [] h = absurd h
  has_it x (y ∷ ys) (inl e) = let P : N → Type 0 = λ t. m.same x t ≡ true in or_left (m.same x y) (has m x ys) (subst P e (ok.same_self x))
  has_it x (y ∷ ys) (inr h) = or_right (m.same x y) (has m x ys) (has_it x ys h)

  pub in_without : (x : N) (names xs : List N) → In x (without m names xs) → In x xs × (In x names → ⊥)
  in_without x names xs h = let t = in_filter (λ y. not (has m y names)) x xs h in (t.0, λ k. true≢false (sym (has_it x names k) ∙ not-true (has m x names) t.1))

  pub without_in : (x : N) (names xs : List N) → In x xs → has m x names ≡ false → In x (without m names xs)
  without_in x names xs h f = filter_in (λ y. not (has m y names)) x xs h (not_from_false (has m x names) f)

  -- a pass with the same past may keep fewer names
  pub view_fewer : (p : S) (log : List (ℕ × E)) (v : View E N) (names : List N) → ((x : N) → In x names → In x v.keeps) → IsView m p log v → IsView m p log (view v.seen names)
  view_fewer p log v names f h = record {
    part = h.part;
    legal = h.legal;
    whole = λ x k b t e. h.whole x (f x k) b t e;
    lives = λ x k b t e. h.lives x (f x k) b t e;
    rooted = λ x k. h.rooted x (f x k);
  }

module _ {S N E : Type 0} (m : Meaning S N E) where
  pub sound_view : (p : S) (log : List (ℕ × E)) (v : View E N) → IsView m p log v → IsSound m p v
  sound_view p log v h = record {
    rises = h.part.rises;
    lives = λ x k b t ends. h.lives x k b (h.part.within b t) ends;
    rooted = h.rooted;
  }
