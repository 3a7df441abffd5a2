-- The union of two legal pasts that agree is legal.
use Rattle.std.proofs.Common.{◌≡◌, ℕ, zero, suc, ◌+◌, ◌<◌, ◌≤◌, ◌⊎◌, true, List, [], ◌∷◌, nat_lt, slice_get, Some, refl, sym, ap, subst, inl, inr, ⊎_elim, arith}
use Rattle.std.proofs.lemmas.Bool.{cases_lt, ltb-true}
use Rattle.dm_spine.specs.Past.{Meaning, Lawful, In, Rises, below, union, chain, IsPart, MayFollow, Legal, Agree}
use Rattle.dm_spine.proofs.Lists.{in_filter, filter_in, rises_low, rises_filter, in_below, below_in, rises_union, in_union, union_left, union_right, same_filter, OneAt}
use Rattle.dm_spine.proofs.Portions.{parts_one, same_chain}

module _ {E : Type 0} where
  -- the entry at a place of a list
  abbrev pub At : List (ℕ × E) → ℕ → ℕ × E → Type 0
  At xs i a = slice_get xs i ≡ Some a

  pub place_of : (a : ℕ × E) (xs : List (ℕ × E)) → In a xs → (i : ℕ) × At xs i a
  place_of a [] h = absurd h
  place_of a (x ∷ xs) (inl q) = (0, ap (λ (t : ℕ × E). Some t) (sym q))
  place_of a (x ∷ xs) (inr h) = let t = place_of a xs h in (suc t.0, t.1)

  pub at_in : (a : ℕ × E) (xs : List (ℕ × E)) (i : ℕ) → At xs i a → In a xs
  at_in a [] i e = cc
  at_in a (x ∷ xs) zero e = inl (cc)
  at_in a (x ∷ xs) (suc i) e = inr (at_in a xs i e)

  -- of two places the lower has the lower number
  pub places_rise : (low : ℕ) (xs : List (ℕ × E)) (i j : ℕ) (a b : ℕ × E) → Rises low xs → At xs i a → At xs j b → i < j → a.0 < b.0
  places_rise low [] i j a b r e f l = cc
  places_rise low (x ∷ xs) zero zero a b r e f l = absurd (omega arith)
  places_rise low (x ∷ xs) zero (suc j) a b r e f l =
      let k : x.0 + 1 ≤ b.0 = rises_low (x.0 + 1) xs r.1 b (at_in b xs j f) in
      let q : x ≡ a = cc in let d : x.0 ≡ a.0 = ap (λ (t : ℕ × E). t.0) q in omega arith
  places_rise low (x ∷ xs) (suc i) zero a b r e f l = absurd (omega arith)
  places_rise low (x ∷ xs) (suc i) (suc j) a b r e f l = let k : i < j = omega arith in places_rise (x.0 + 1) xs i j a b r.1 e f k

  -- where something stands at a place, something stands at each place before it
  pub place_before : (xs : List (ℕ × E)) (i j : ℕ) (a : ℕ × E) → At xs j a → i ≤ j → (b : ℕ × E) × At xs i b
  place_before [] i j a e l = cc
  place_before (x ∷ xs) zero j a e l = (x, refl)
  place_before (x ∷ xs) (suc i) zero a e l = absurd (omega arith)
  place_before (x ∷ xs) (suc i) (suc j) a e l = let k : i ≤ j = omega arith in place_before xs i j a e k

  reach : (xs ys : List (ℕ × E)) (i j : ℕ) (a b : ℕ × E) → Rises 0 ys → At xs i a → At ys j b → b.0 < a.0 → ((k : ℕ) (c d : ℕ × E) → At xs k c → At ys k d → c ≡ d) → (i < j) ⊎ (j ≤ i) → In b xs
  reach xs ys i j a b s e f l places (inl h) =
      let le : i ≤ j = omega arith in
      let c = place_before ys i j b f le in
      let q : a ≡ c.0 = places i a c.0 e c.1 in
      let k : c.0.0 < b.0 = places_rise 0 ys i j c.0 b s c.1 f h in
      let d : a.0 ≡ c.0.0 = ap (λ (t : ℕ × E). t.0) q in absurd (omega arith)
  reach xs ys i j a b s e f l places (inr h) =
      let c = place_before xs j i a e h in
      let q : c.0 ≡ b = places j c.0 b c.1 f in
      let P : ℕ × E → Type 0 = λ t. In t xs in subst P q (at_in c.0 xs j c.1)

  -- where two lists have one entry at each place, each has what stands in the other before one of its own
  pub reached : (xs ys : List (ℕ × E)) (i j : ℕ) (a b : ℕ × E) → Rises 0 ys → At xs i a → At ys j b → b.0 < a.0 → ((k : ℕ) (c d : ℕ × E) → At xs k c → At ys k d → c ≡ d) → In b xs
  reached xs ys i j a b s e f l places = reach xs ys i j a b s e f l places (cases_lt i j)

module _ {S N E : Type 0} (m : Meaning S N E) where
  -- what one past has about a name before an entry of the other about it, the other has too
  pub record Meets (xs ys : List (ℕ × E)) : Type 0 where
    pub numbers : OneAt xs ys
    pub left : (x : N) (a b : ℕ × E) → In a xs → In b ys → b.0 < a.0 → m.about a.1 x ≡ true → m.about b.1 x ≡ true → In b xs
    pub right : (x : N) (a b : ℕ × E) → In a ys → In b xs → b.0 < a.0 → m.about a.1 x ≡ true → m.about b.1 x ≡ true → In b ys

  pub parts_meet : (log xs ys : List (ℕ × E)) → IsPart m xs log → IsPart m ys log → Meets xs ys
  parts_meet log xs ys v w = record {
    numbers = parts_one m log xs ys v w;
    left = λ x a b h k l s t. v.chained x a b h (w.within b k) l s t;
    right = λ x a b h k l s t. w.chained x a b h (v.within b k) l s t;
  }

  pub meets_back : (xs ys : List (ℕ × E)) → Meets xs ys → Meets ys xs
  meets_back xs ys h = record { numbers = λ a b s t e. sym (h.numbers b a t s (sym e)); left = h.right; right = h.left }

  at_chain : (x : N) (a : ℕ × E) (xs : List (ℕ × E)) → In a xs → m.about a.1 x ≡ true → In a (chain m x xs)
  at_chain x a xs h e = filter_in (λ t. m.about t.1 x) a xs h e

  pub agree_left : (xs ys : List (ℕ × E)) → Rises 0 xs → Rises 0 ys → ((x : N) (i : ℕ) (a b : ℕ × E) → At (chain m x xs) i a → At (chain m x ys) i b → a ≡ b)
      → (x : N) (a b : ℕ × E) → In a xs → In b ys → b.0 < a.0 → m.about a.1 x ≡ true → m.about b.1 x ≡ true → In b xs
  agree_left xs ys r s places x a b h k l e f =
      let cx = chain m x xs in
      let cy = chain m x ys in
      let i = place_of a cx (at_chain x a xs h e) in
      let j = place_of b cy (at_chain x b ys k f) in
      (in_filter (λ t. m.about t.1 x) b xs (reached cx cy i.0 j.0 a b (rises_filter (λ t. m.about t.1 x) 0 ys s) i.1 j.1 l (places x))).0

  pub agree_meets : (xs ys : List (ℕ × E)) → Rises 0 xs → Rises 0 ys → Agree m xs ys → Meets xs ys
  agree_meets xs ys r s h = record {
    numbers = h.numbers;
    left = agree_left xs ys r s h.places;
    right = agree_left ys xs s r (λ x i a b t k. sym (h.places x i b a k t));
  }

  -- before k there is what is before k among what is before a greater n
  below_below : (k n : ℕ) (xs : List (ℕ × E)) → Rises 0 xs → k < n → below k (below n xs) ≡ below k xs
  below_below k n xs r less =
      same_filter (λ a. nat_lt a.0 k) (below n xs) xs (rises_filter (λ a. nat_lt a.0 n) 0 xs r) r
      (λ a h t. (below_in n a xs h).0)
      (λ a h t. let l : a.0 < k = ltb-true a.0 k t in let u : a.0 < n = omega arith in in_below n a xs h u)

  -- where each entry before n fits those before it, what is before n is legal
  pub legal_below : (p : S) (n : ℕ) (xs : List (ℕ × E)) → Rises 0 xs
      → ((k : ℕ) (e : E) → In (k, e) xs → k < n → MayFollow m p (below k xs) e) → Legal m p (below n xs)
  legal_below p n xs r fits k e h =
      let there = below_in n (k, e) xs h in
      let P : List (ℕ × E) → Type 0 = λ zs. MayFollow m p zs e in
      subst P (sym (below_below k n xs r there.1)) (fits k e there.0 there.1)

  -- an entry that may come after xs may come after more, if nothing of its own names is among it
  pub fits_grow : (ok : Lawful m) (p : S) (xs ys : List (ℕ × E)) (e : E) → IsPart m xs ys → Legal m p xs → Legal m p ys
      → ((x : N) → m.about e x ≡ true → chain m x ys ≡ chain m x xs) → MayFollow m p xs e → MayFollow m p ys e
  fits_grow ok p xs ys e part legal more same h = record {
    needed = ok.needs_grow p xs ys e part legal more (λ x t. sym (same x t)) h.needed;
    followed = λ x t. let P : List (ℕ × E) → Type 0 = λ c. m.follows p x c e in subst P (sym (same x t)) (h.followed x t);
  }

  legal_into : (ok : Lawful m) (p : S) (xs ys all : List (ℕ × E)) → Rises 0 xs → Rises 0 all → ((a : ℕ × E) → In a xs → In a all) → ((a : ℕ × E) → In a all → In a xs ⊎ In a ys)
      → ((x : N) (a b : ℕ × E) → In a xs → In b ys → b.0 < a.0 → m.about a.1 x ≡ true → m.about b.1 x ≡ true → In b xs)
      → Legal m p xs → (n : ℕ) (e : E) → In (n, e) xs → Legal m p (below n all) → MayFollow m p (below n all) e
  legal_into ok p xs ys all r s f parted closed legal n e h before =
      let known : (x : N) (a b : ℕ × E) → In a xs → In b all → b.0 < a.0 → m.about a.1 x ≡ true → m.about b.1 x ≡ true → In b xs
      = λ x a b t k l u v. ⊎_elim (λ w. w) (λ w. closed x a b t w l u v) (parted b k) in
      let rx = rises_filter (λ t. nat_lt t.0 n) 0 xs r in
      let within : (a : ℕ × E) → In a (below n xs) → In a (below n all) = λ a t. let k = below_in n a xs t in in_below n a all (f a k.0) k.1 in
      let last : ℕ × E = (n, e) in
      let part : IsPart m (below n xs) (below n all) = record {
        rises = rx;
        ordered = rises_filter (λ t. nat_lt t.0 n) 0 all s;
        within = within;
        chained = λ x a b t k l u v. let ta = below_in n a xs t in let tb = below_in n b all k in in_below n b xs (known x a b ta.0 tb.0 l u v) tb.1;
      } in
      fits_grow ok p (below n xs) (below n all) e part (legal_below p n xs r (λ k g t l. legal k g t)) before
      (λ x t. same_chain m x (below n xs) (below n all) rx (rises_filter (λ t. nat_lt t.0 n) 0 all s) within
      (λ b k u. let tb = below_in n b all k in in_below n b xs (known x last b h tb.0 tb.1 t u) tb.1))
      (legal n e h)

  -- by induction on a number above: each entry of the union fits, since those before it do
  union_fits : (ok : Lawful m) (p : S) (xs ys : List (ℕ × E)) → Rises 0 xs → Rises 0 ys → Meets xs ys → Legal m p xs → Legal m p ys
      → (high n : ℕ) (e : E) → In (n, e) (union xs ys) → n < high → MayFollow m p (below n (union xs ys)) e
  union_fits ok p xs ys r s meets l k zero n e h less = absurd (omega arith)
  union_fits ok p xs ys r s meets l k (suc high) n e h less =
      let u = rises_union 0 xs ys r s in
      let before : Legal m p (below n (union xs ys)) = legal_below p n (union xs ys) u
      (λ i f there lower. let low : i < high = omega arith in union_fits ok p xs ys r s meets l k high i f there low) in
      let swap : (a : ℕ × E) → In a (union xs ys) → In a ys ⊎ In a xs = λ a t. ⊎_elim (λ w. inr w) (λ w. inl w) (in_union a xs ys t) in
      ⊎_elim
      (λ t. legal_into ok p xs ys (union xs ys) r u (λ a w. union_left 0 a xs ys r meets.numbers w) (λ a w. in_union a xs ys w) meets.left l n e t before)
      (λ t. legal_into ok p ys xs (union xs ys) s u (λ a w. union_right a xs ys w) swap meets.right k n e t before)
      (in_union (n, e) xs ys h)

  pub union_meets : (ok : Lawful m) (p : S) (xs ys : List (ℕ × E)) → Rises 0 xs → Rises 0 ys → Meets xs ys → Legal m p xs → Legal m p ys → Legal m p (union xs ys)
  union_meets ok p xs ys r s meets l k n e h = let above : n < suc n = omega arith in union_fits ok p xs ys r s meets l k (suc n) n e h above

  pub union_is_legal : (ok : Lawful m) (p : S) (xs ys : List (ℕ × E)) → Rises 0 xs → Rises 0 ys → Agree m xs ys → Legal m p xs → Legal m p ys → Legal m p (union xs ys)
  union_is_legal ok p xs ys r s agree l k = union_meets ok p xs ys r s (agree_meets xs ys r s agree) l k
