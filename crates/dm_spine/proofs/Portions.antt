-- Parts of a history: with an entry they have each earlier one about the same name.
use Rattle.std.proofs.Common.{◌≡◌, ℕ, ◌+◌, ◌<◌, ◌≤◌, ◌⊎◌, true, List, [], ◌∷◌, length, sym, ap, ◌∙◌, subst, inl, inr, ⊎_elim, arith}
use Rattle.dm_spine.specs.Past.{Meaning, Lawful, In, Rises, union, chain, at_home, IsPart}
use Rattle.dm_spine.proofs.Lists.{rises_low, same_filter, rises_union, in_union, union_left, union_right, OneAt}

module _ {E : Type 0} where
  both_at : (low : ℕ) (xs : List (ℕ × E)) → Rises low xs → OneAt xs xs
  both_at low [] r a b h k e = absurd h
  both_at low (x ∷ xs) r a b (inl q) (inl t) e = q ∙ sym t
  both_at low (x ∷ xs) r a b (inl q) (inr k) e = let l : x.0 + 1 ≤ b.0 = rises_low (x.0 + 1) xs r.1 b k in let d : a.0 ≡ x.0 = ap (λ (t : ℕ × E). t.0) q in absurd (omega arith)
  both_at low (x ∷ xs) r a b (inr h) (inl t) e = let l : x.0 + 1 ≤ a.0 = rises_low (x.0 + 1) xs r.1 a h in let d : b.0 ≡ x.0 = ap (λ (t : ℕ × E). t.0) t in absurd (omega arith)
  both_at low (x ∷ xs) r a b (inr h) (inr k) e = both_at (x.0 + 1) xs r.1 a b h k e

  -- in a rising list one entry stands at a number
  pub one_at : (xs : List (ℕ × E)) → Rises 0 xs → OneAt xs xs
  one_at xs r = both_at 0 xs r

module _ {S N E : Type 0} (m : Meaning S N E) where
  pub part_self : (log : List (ℕ × E)) → Rises 0 log → IsPart m log log
  part_self log r = record { rises = r; ordered = r; within = λ a h. h; chained = λ x a b h k l s t. k }

  -- two parts of one history have one entry at each number
  pub parts_one : (log xs ys : List (ℕ × E)) → IsPart m xs log → IsPart m ys log → OneAt xs ys
  parts_one log xs ys v w a b h k e = one_at log v.ordered a b (v.within a h) (w.within b k) e

  union_chained : (log xs ys : List (ℕ × E)) → IsPart m xs log → IsPart m ys log → (x : N) (a b : ℕ × E) → In a xs ⊎ In a ys → In b log → b.0 < a.0 → m.about a.1 x ≡ true → m.about b.1 x ≡ true → In b (union xs ys)
  union_chained log xs ys v w x a b (inl h) k l s t = union_left 0 b xs ys v.rises (parts_one log xs ys v w) (v.chained x a b h k l s t)
  union_chained log xs ys v w x a b (inr h) k l s t = union_right b xs ys (w.chained x a b h k l s t)

  -- the union of two parts is a part
  pub union_part : (log xs ys : List (ℕ × E)) → IsPart m xs log → IsPart m ys log → IsPart m (union xs ys) log
  union_part log xs ys v w = record {
    rises = rises_union 0 xs ys v.rises w.rises;
    ordered = v.ordered;
    within = λ a h. ⊎_elim (λ k. v.within a k) (λ k. w.within a k) (in_union a xs ys h);
    chained = λ x a b h k l s t. union_chained log xs ys v w x a b (in_union a xs ys h) k l s t;
  }

  -- a part of a history is a part of each of its larger parts
  pub part_within : (log xs ys : List (ℕ × E)) → IsPart m xs log → IsPart m ys log → ((a : ℕ × E) → In a xs → In a ys) → IsPart m xs ys
  part_within log xs ys v w f = record {
    rises = v.rises;
    ordered = w.rises;
    within = f;
    chained = λ x a b h k l s t. v.chained x a b h (w.within b k) l s t;
  }

  -- the chain of a name of which xs has each entry that ys has
  pub same_chain : (x : N) (xs ys : List (ℕ × E)) → Rises 0 xs → Rises 0 ys → ((a : ℕ × E) → In a xs → In a ys) → ((b : ℕ × E) → In b ys → m.about b.1 x ≡ true → In b xs) → chain m x ys ≡ chain m x xs
  same_chain x xs ys r s f g = same_filter (λ a. m.about a.1 x) ys xs s r g (λ a h t. f a h)

  pub at_home_about : (ok : Lawful m) (h : N) (a : ℕ × E) → m.same (m.home a.1) h ≡ true → m.about a.1 h ≡ true
  at_home_about ok h a e = let P : N → Type 0 = λ n. m.about a.1 n ≡ true in subst P (ok.same_is (m.home a.1) h e) (ok.home_about a.1)

  -- likewise how many entries are at home there
  pub same_count : (ok : Lawful m) (h : N) (xs ys : List (ℕ × E)) → Rises 0 xs → Rises 0 ys → ((a : ℕ × E) → In a xs → In a ys) → ((b : ℕ × E) → In b ys → m.about b.1 h ≡ true → In b xs) → at_home m h ys ≡ at_home m h xs
  same_count ok h xs ys r s f g = ap length (same_filter (λ a. m.same (m.home a.1) h) ys xs s r (λ b k e. g b k (at_home_about ok h b e)) (λ a k t. f a k))
