-- What users of a spine rest on: chains and counts after a draw, and where a name goes there and back.
use Rattle.std.proofs.Common.{◌≡◌, ℕ, zero, suc, ◌+◌, ◌<◌, ◌≤◌, ◌⊎◌, Bool, true, false, not, cond, List, [], ◌∷◌, ◌++◌, length, filter, Some, refl, sym, ap, ◌∙◌, subst, inl, inr, ⊎_elim, arith}
use Rattle.std.proofs.lemmas.Bool.{true≢false, not_from_false, false_from_ne_true}
use Rattle.std.proofs.lemmas.List.Elements.{filter-append}
use Rattle.dm_spine.specs.Past.{Meaning, Lawful, In, Rises, has, chain, at_home, union, IsPart, MayFollow, Legal, Agree}
use Rattle.dm_spine.specs.Rule.{IsSound, Draws, Together, Gives}
use Rattle.dm_spine.specs.Passes.{parts_of, spine_parts, IsBeside, IsOn}
use Rattle.dm_spine.specs.declared.rule.View.{View}
use Rattle.dm_spine.specs.declared.pass.Pass.{Pass}
use Rattle.dm_spine.specs.declared.pass.Spine.{Spine}
use Rattle.dm_spine.proofs.Lists.{in_left, in_right, in_append, in_filter, filter_in, rises_filter, rises_front, filter-last_in, filter-last_out, below_front, begins}
use Rattle.dm_spine.proofs.Portions.{at_home_about, parts_one}
use Rattle.dm_spine.proofs.Legality.{At}
use Rattle.dm_spine.proofs.Counts.{length-filter_le, at_home-more, at_home-other}
use Rattle.dm_spine.proofs.Seats.{in_one}
pub use Rattle.dm_spine.proofs.Seats.{has_in, has_it, in_without, without_in}
pub use Rattle.dm_spine.proofs.Legality.{union_is_legal}

module _ {S N E : Type 0} where
  -- passes of one spine have one opening value
  pub beside_parts : (one other : Pass S N E) → IsBeside one other → parts_of one ≡ parts_of other
  beside_parts one other h = λ i. (h i).shared.key

  pub on_parts : (spine : Spine S N E) (pass : Pass S N E) → IsOn spine pass → spine_parts spine ≡ parts_of pass
  on_parts spine pass h = λ i. (h i).shared.key

module _ {S N E : Type 0} (m : Meaning S N E) where
  pub chain-append : (x : N) (xs ys : List (ℕ × E)) → chain m x (xs ++ ys) ≡ chain m x xs ++ chain m x ys
  chain-append x xs ys = filter-append (λ a. m.about a.1 x) xs ys

  pub chain-last : (x : N) (xs : List (ℕ × E)) (n : ℕ) (e : E) → m.about e x ≡ true → chain m x (xs ++ (n, e) ∷ []) ≡ chain m x xs ++ (n, e) ∷ []
  chain-last x xs n e h = filter-last_in (λ a. m.about a.1 x) xs (n, e) h

  pub chain-last_other : (x : N) (xs : List (ℕ × E)) (n : ℕ) (e : E) → m.about e x ≡ false → chain m x (xs ++ (n, e) ∷ []) ≡ chain m x xs
  chain-last_other x xs n e h = filter-last_out (λ a. m.about a.1 x) xs (n, e) h

  pub part_then : (xs ys zs : List (ℕ × E)) → IsPart m xs ys → IsPart m ys zs → IsPart m xs zs
  part_then xs ys zs v w = record {
    rises = v.rises;
    ordered = w.ordered;
    within = λ a t. w.within a (v.within a t);
    chained = λ x a b t k l about about'. v.chained x a b t (w.chained x a b (v.within a t) k l about about') l about about';
  }

  -- what a past has of a name's chain begins the chain
  pub chain_begins : (x : N) (xs log : List (ℕ × E)) → IsPart m xs log → (rest : List (ℕ × E)) × (chain m x log ≡ chain m x xs ++ rest)
  chain_begins x xs log v =
      let p : ℕ × E → Bool = λ a. m.about a.1 x in
      begins 0 0 (chain m x xs) (chain m x log) (rises_filter p 0 xs v.rises) (rises_filter p 0 log v.ordered)
      (λ a t. let k = in_filter p a xs t in filter_in p a log (v.within a k.0) k.1)
      (λ a b t o l. let k = in_filter p a xs t in let j = in_filter p b log o in filter_in p b xs (v.chained x a b k.0 j.0 l k.1 j.1) j.1)

  at_front : (xs ys : List (ℕ × E)) (i : ℕ) (a : ℕ × E) → At xs i a → At (xs ++ ys) i a
  at_front [] ys i a e = cc
  at_front (x ∷ xs) ys zero a e = e
  at_front (x ∷ xs) ys (suc i) a e = at_front xs ys i a e

  at_chain : (x : N) (xs log : List (ℕ × E)) → IsPart m xs log → (i : ℕ) (a : ℕ × E) → At (chain m x xs) i a → At (chain m x log) i a
  at_chain x xs log v i a e =
      let t = chain_begins x xs log v in
      let P : List (ℕ × E) → Type 0 = λ c. At c i a in subst P (sym t.1) (at_front (chain m x xs) t.0 i a e)

  -- two parts of one history agree
  pub parts_agree : (log xs ys : List (ℕ × E)) → IsPart m xs log → IsPart m ys log → Agree m xs ys
  parts_agree log xs ys v w = record {
    numbers = parts_one m log xs ys v w;
    places = λ x i a b t u. let f = at_chain x xs log v i a t in let g = at_chain x ys log w i b u in some_same a b (sym f ∙ g);
  } where
    some_same : (a b : ℕ × E) → Some a ≡ Some b → a ≡ b
    some_same a b e = cc

  -- in a legal past, sorted by the numbers, each entry may come after the entries before it
  pub fits_run : (p : S) (n : ℕ) (ys zs : List (ℕ × E)) (e : E) → Rises 0 (ys ++ (n, e) ∷ zs) → Legal m p (ys ++ (n, e) ∷ zs) → MayFollow m p ys e
  fits_run p n ys zs e r legal =
      let P : List (ℕ × E) → Type 0 = λ xs. MayFollow m p xs e in
      subst P (below_front ys zs (n, e) r) (legal n e (in_right (n, e) ys ((n, e) ∷ zs) (inl refl)))

module _ {S N E : Type 0} {m : Meaning S N E} {p : S} {v w : View E N} (t : Together m p v w) where
  -- passes that are joined had agreed
  pub together_agree : Agree m v.seen w.seen
  together_agree = parts_agree m (union v.seen w.seen) v.seen w.seen t.left_part t.right_part

-- What a draw tells.
module _ {S N E : Type 0} {m : Meaning S N E} {p : S} {e : E} {v : View E N} {n : ℕ} {w : View E N} (d : Draws m p e v n w) where
  pub drawn_seen : w.seen ≡ v.seen ++ (n, e) ∷ []
  drawn_seen = ap (λ (u : View E N). u.seen) d.after

  pub drawn_keeps : w.keeps ≡ filter (λ x. not (m.ends e x)) v.keeps ++ m.makes n e
  drawn_keeps = ap (λ (u : View E N). u.keeps) d.after

  pub drawn_there : In (n, e) w.seen
  drawn_there = let P : List (ℕ × E) → Type 0 = λ xs. In (n, e) xs in subst P (sym drawn_seen) (in_right (n, e) v.seen ((n, e) ∷ []) (inl refl))

  pub drawn_part : IsPart m v.seen w.seen
  drawn_part =
      let P : List (ℕ × E) → Type 0 = λ xs. IsPart m v.seen xs in
      let R : List (ℕ × E) → Type 0 = λ xs. Rises 0 xs in
      subst P (sym drawn_seen) record {
        rises = rises_front 0 v.seen ((n, e) ∷ []) (subst R drawn_seen d.sound.rises);
        ordered = subst R drawn_seen d.sound.rises;
        within = λ a t. in_left a v.seen ((n, e) ∷ []) t;
        chained = λ x a b t k l about about'. ⊎_elim
            (λ u. u)
            (λ u. let q : b.0 ≡ n = ap (λ (c : ℕ × E). c.0) (in_one b (n, e) u) in let lt : a.0 < n = d.above a t in absurd (omega arith))
            (in_append b v.seen ((n, e) ∷ []) k);
      }

  -- the chain of a name that the entry is about has the entry at its end; each other chain stays
  pub drawn_chain : (x : N) → m.about e x ≡ true → chain m x w.seen ≡ chain m x v.seen ++ (n, e) ∷ []
  drawn_chain x h = ap (λ (xs : List (ℕ × E)). chain m x xs) drawn_seen ∙ chain-last m x v.seen n e h

  pub drawn_other : (x : N) → m.about e x ≡ false → chain m x w.seen ≡ chain m x v.seen
  drawn_other x h = ap (λ (xs : List (ℕ × E)). chain m x xs) drawn_seen ∙ chain-last_other m x v.seen n e h

  -- a kept name that the entry does not end is still kept, and so is each that it makes
  pub still_kept : (x : N) → In x v.keeps → m.ends e x ≡ false → In x w.keeps
  still_kept x h f =
      let P : List N → Type 0 = λ xs. In x xs in
      subst P (sym drawn_keeps) (in_left x (filter (λ y. not (m.ends e y)) v.keeps) (m.makes n e) (filter_in (λ y. not (m.ends e y)) x v.keeps h (not_from_false (m.ends e x) f)))

  pub made_kept : (x : N) → In x (m.makes n e) → In x w.keeps
  made_kept x h = let P : List N → Type 0 = λ xs. In x xs in subst P (sym drawn_keeps) (in_right x (filter (λ y. not (m.ends e y)) v.keeps) (m.makes n e) h)

  pub home_more : (ok : Lawful m) → at_home m (m.home e) w.seen ≡ at_home m (m.home e) v.seen + 1
  home_more ok = ap (λ (xs : List (ℕ × E)). at_home m (m.home e) xs) drawn_seen ∙ at_home-more m ok v.seen (n, e)

  pub home_other : (ok : Lawful m) (h : N) → m.same (m.home e) h ≡ false → at_home m h w.seen ≡ at_home m h v.seen
  home_other ok h f = ap (λ (xs : List (ℕ × E)). at_home m h xs) drawn_seen ∙ at_home-other m ok h v.seen (n, e) f

module _ {S N E : Type 0} {m : Meaning S N E} (ok : Lawful m) where
  again : (p q : ℕ × E → Bool) → ((a : ℕ × E) → q a ≡ true → p a ≡ true) → (a : ℕ × E) (xs ys : List (ℕ × E)) (b : Bool) → p a ≡ b → filter q xs ≡ filter q ys → cond (q a) (a ∷ filter q xs) (filter q xs) ≡ filter q (cond b (a ∷ ys) ys)
  again p q f a xs ys true e h = ap (λ t. cond (q a) (a ∷ t) t) h
  again p q f a xs ys false e h = skipped (q a) a (filter q xs) (filter q ys) (λ g. true≢false (sym (f a g) ∙ e)) h where
    skipped : (b : Bool) (a : ℕ × E) (xs ys : List (ℕ × E)) → (b ≡ true → ⊥) → xs ≡ ys → cond b (a ∷ xs) xs ≡ ys
    skipped true a xs ys f h = absurd (f refl)
    skipped false a xs ys f h = h

  filter_twice : (p q : ℕ × E → Bool) → ((a : ℕ × E) → q a ≡ true → p a ≡ true) → (xs : List (ℕ × E)) → filter q xs ≡ filter q (filter p xs)
  filter_twice p q f [] = refl
  filter_twice p q f (a ∷ xs) = again p q f a xs (filter p xs) (p a) refl (filter_twice p q f xs)

  -- the entries at a home are counted by its chain
  pub at_home-chain : (h : N) (xs : List (ℕ × E)) → at_home m h xs ≡ at_home m h (chain m h xs)
  at_home-chain h xs = ap length (filter_twice (λ a. m.about a.1 h) (λ a. m.same (m.home a.1) h) (λ a e. at_home_about m ok h a e) xs)

  pub same_home : (h : N) (xs ys : List (ℕ × E)) → chain m h xs ≡ chain m h ys → at_home m h xs ≡ at_home m h ys
  same_home h xs ys e = at_home-chain h xs ∙ ap (λ (c : List (ℕ × E)). at_home m h c) e ∙ sym (at_home-chain h ys)

  -- no more entries are at home there than are about it
  pub at_home_most : (h : N) (xs : List (ℕ × E)) → at_home m h xs ≤ length (chain m h xs)
  at_home_most h xs = let e = at_home-chain h xs in let l = length-filter_le (λ a. m.same (m.home a.1) h) (chain m h xs) in omega arith

  pub has_not : (x : N) (xs : List N) → (In x xs → ⊥) → has m x xs ≡ false
  has_not x xs f = false_from_ne_true (has m x xs) (λ e. f (has_in ok x xs e))

-- What the giving of a name tells.
module _ {S N E : Type 0} {m : Meaning S N E} (ok : Lawful m) {p : S} {x : N} {v w v' w' : View E N} (g : Gives m p x v w v' w') where
  pub given_left_seen : v'.seen ≡ v.seen
  given_left_seen = ap (λ (u : View E N). u.seen) g.left

  pub given_seen : w'.seen ≡ union w.seen v.seen
  given_seen = ap (λ (u : View E N). u.seen) g.given

  -- the giver keeps its other names
  pub other_kept : (y : N) → In y v.keeps → (y ≡ x → ⊥) → In y v'.keeps
  other_kept y h ne =
      let P : View E N → Type 0 = λ u. In y u.keeps in
      subst P (sym g.left) (without_in ok y (x ∷ []) v.keeps h (has_not ok y (x ∷ []) (λ t. ne (in_one y x t))))

  pub given_away : (y : N) → In y v'.keeps → In y v.keeps × (y ≡ x → ⊥)
  given_away y h =
      let P : View E N → Type 0 = λ u. In y u.keeps in
      let t = in_without ok y (x ∷ []) v.keeps (subst P g.left h) in (t.0, λ e. t.1 (inl e))

  -- the taker keeps the name and all of its own
  pub given_name : In x w'.keeps
  given_name = let P : View E N → Type 0 = λ u. In x u.keeps in subst P (sym g.given) (in_right x w.keeps (x ∷ []) (inl refl))

  pub given_kept : (y : N) → In y w.keeps → In y w'.keeps
  given_kept y h = let P : View E N → Type 0 = λ u. In y u.keeps in subst P (sym g.given) (in_left y w.keeps (x ∷ []) h)

  pub given_from : (y : N) → In y w'.keeps → In y w.keeps ⊎ (y ≡ x)
  given_from y h =
      let P : View E N → Type 0 = λ u. In y u.keeps in
      ⊎_elim (λ t. inl t) (λ t. inr (in_one y x t)) (in_append y w.keeps (x ∷ []) (subst P g.given h))

  -- the taker has the giver's chain of the name, and its own chains stay
  pub given_chain : chain m x w'.seen ≡ chain m x v.seen
  given_chain = ap (λ (xs : List (ℕ × E)). chain m x xs) given_seen ∙ g.together.theirs x (inl refl)

  pub given_other : (y : N) → In y w.keeps → chain m y w'.seen ≡ chain m y w.seen
  given_other y h = ap (λ (xs : List (ℕ × E)). chain m y xs) given_seen ∙ g.together.mine y h

  pub given_part : IsPart m w.seen w'.seen
  given_part = let P : List (ℕ × E) → Type 0 = λ xs. IsPart m w.seen xs in subst P (sym given_seen) g.together.left_part

  pub given_whole : IsPart m v.seen w'.seen
  given_whole = let P : List (ℕ × E) → Type 0 = λ xs. IsPart m v.seen xs in subst P (sym given_seen) g.together.right_part

  pub given_legal : Legal m p w'.seen
  given_legal = let P : List (ℕ × E) → Type 0 = λ xs. Legal m p xs in subst P (sym given_seen) g.together.legal

  pub given_sound : IsSound m p w'
  given_sound = let P : View E N → Type 0 = λ u. IsSound m p u in subst P (sym g.given) g.together.sound

-- A name goes from a pass to another one, which draws one entry, and back. The views of the one are called k, those of the
-- other w, each with the number of what was done since.
module _ {S N E : Type 0} {m : Meaning S N E} (ok : Lawful m) {p : S} {x : N} {e : E} {n : ℕ} {k w k1 w1 w2 k2 w3 : View E N}
    (there : Gives m p x k w k1 w1) (drew : Draws m p e w1 n w2) (back : Gives m p x w2 k1 w3 k2) where
  -- its chain is the old one with the entry at its end
  pub handed : m.about e x ≡ true → chain m x k2.seen ≡ chain m x k.seen ++ (n, e) ∷ []
  handed h = given_chain ok back ∙ drawn_chain drew x h ∙ ap (λ (c : List (ℕ × E)). c ++ (n, e) ∷ []) (given_chain ok there)

  pub handed_home : m.home e ≡ x → at_home m x k2.seen ≡ at_home m x k.seen + 1
  handed_home q =
      let P : N → Type 0 = λ y. at_home m y w2.seen ≡ at_home m y w1.seen + 1 in
      let more : at_home m x w2.seen ≡ at_home m x w1.seen + 1 = subst P q (home_more drew ok) in
      let last = same_home ok x k2.seen w2.seen (given_chain ok back) in
      let first = same_home ok x w1.seen k.seen (given_chain ok there) in
      omega arith

  pub handed_kept : In x k2.keeps
  handed_kept = given_name ok back

  -- the other names of the first pass, and their chains, stay
  pub handed_others : (y : N) → In y k.keeps → (y ≡ x → ⊥) → In y k2.keeps × (chain m y k2.seen ≡ chain m y k.seen)
  handed_others y h ne =
      let kept = other_kept ok there y h ne in
      (given_kept ok back y kept, given_other ok back y kept ∙ ap (λ (xs : List (ℕ × E)). chain m y xs) (given_left_seen ok there))

  -- the names of the pass that drew are still its own, and have the entry at the end of their chains where it is about them
  pub handed_mine : (y : N) → In y w.keeps → (y ≡ x → ⊥) → m.ends e y ≡ false → In y w3.keeps
  handed_mine y h ne f = other_kept ok back y (still_kept drew y (given_kept ok there y h) f) ne

  pub handed_own : (y : N) → In y w.keeps → m.about e y ≡ true → chain m y w3.seen ≡ chain m y w.seen ++ (n, e) ∷ []
  handed_own y h about = ap (λ (xs : List (ℕ × E)). chain m y xs) (given_left_seen ok back) ∙ drawn_chain drew y about ∙ ap (λ (c : List (ℕ × E)). c ++ (n, e) ∷ []) (given_other ok there y h)

  pub handed_still : (y : N) → In y w.keeps → m.about e y ≡ false → chain m y w3.seen ≡ chain m y w.seen
  handed_still y h about = ap (λ (xs : List (ℕ × E)). chain m y xs) (given_left_seen ok back) ∙ drawn_other drew y about ∙ given_other ok there y h

  pub handed_part : IsPart m w.seen w3.seen
  handed_part =
      let P : List (ℕ × E) → Type 0 = λ xs. IsPart m w.seen xs in
      subst P (sym (given_left_seen ok back)) (part_then m w.seen w1.seen w2.seen (given_part ok there) (drawn_part drew))
