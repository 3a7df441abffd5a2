-- Members of lists, lists whose numbers rise, and their unions.
use Rattle.std.proofs.Common.{◌≡◌, ℕ, ◌+◌, ◌<◌, ◌≤◌, ◌⊎◌, Bool, true, false, cond, List, [], ◌∷◌, ◌++◌, filter, nat_lt, refl, sym, ap, ◌∙◌, subst, inl, inr, ⊎_elim, append-nil, arith}
use Rattle.std.proofs.lemmas.Bool.{ltb-true, ltb-false, lt-ltb, le-ltb, true≢false}
use Rattle.std.proofs.lemmas.List.Elements.{filter-append}
use Rattle.dm_spine.specs.Past.{In, Rises, below, IsAbove, insert, union}

module _ {A : Type 0} where
  pub in_left : (a : A) (xs ys : List A) → In a xs → In a (xs ++ ys)
  in_left a [] ys h = absurd h
  in_left a (x ∷ xs) ys (inl e) = inl e
  in_left a (x ∷ xs) ys (inr h) = inr (in_left a xs ys h)

  pub in_right : (a : A) (xs ys : List A) → In a ys → In a (xs ++ ys)
  in_right a [] ys h = h
  in_right a (x ∷ xs) ys h = inr (in_right a xs ys h)

  pub in_append : (a : A) (xs ys : List A) → In a (xs ++ ys) → In a xs ⊎ In a ys
  in_append a [] ys h = inr h
  in_append a (x ∷ xs) ys (inl e) = inl (inl e)
  in_append a (x ∷ xs) ys (inr h) = ⊎_elim (λ t. inl (inr t)) (λ t. inr t) (in_append a xs ys h)

  filtered : (p : A → Bool) (a x : A) (xs : List A) (b : Bool) → p x ≡ b → (In a (filter p xs) → In a xs × (p a ≡ true)) → In a (cond b (x ∷ filter p xs) (filter p xs)) → ((a ≡ x) ⊎ In a xs) × (p a ≡ true)
  filtered p a x xs true e more (inl q) = (inl q, ap p q ∙ e)
  filtered p a x xs true e more (inr h) = let t = more h in (inr t.0, t.1)
  filtered p a x xs false e more h = let t = more h in (inr t.0, t.1)

  pub in_filter : (p : A → Bool) (a : A) (xs : List A) → In a (filter p xs) → In a xs × (p a ≡ true)
  in_filter p a [] h = absurd h
  in_filter p a (x ∷ xs) h = filtered p a x xs (p x) refl (in_filter p a xs) h

  kept_here : (p : A → Bool) (a x : A) (xs : List A) (b : Bool) → p x ≡ b → p a ≡ true → a ≡ x → In a (cond b (x ∷ filter p xs) (filter p xs))
  kept_here p a x xs true e h q = inl q
  kept_here p a x xs false e h q = let w : true ≡ false = sym h ∙ (ap p q ∙ e) in cc

  kept_later : (a x : A) (ys : List A) (b : Bool) → In a ys → In a (cond b (x ∷ ys) ys)
  kept_later a x ys true h = inr h
  kept_later a x ys false h = h

  pub filter_in : (p : A → Bool) (a : A) (xs : List A) → In a xs → p a ≡ true → In a (filter p xs)
  filter_in p a [] h e = absurd h
  filter_in p a (x ∷ xs) (inl q) e = kept_here p a x xs (p x) refl e q
  filter_in p a (x ∷ xs) (inr h) e = kept_later a x (filter p xs) (p x) (filter_in p a xs h e)

module _ {E : Type 0} where
  pub rises_low : (low : ℕ) (xs : List (ℕ × E)) → Rises low xs → (a : ℕ × E) → In a xs → low ≤ a.0
  rises_low low [] r a h = absurd h
  rises_low low (x ∷ xs) r a (inl q) = let e : a.0 ≡ x.0 = ap (λ (t : ℕ × E). t.0) q in let l : low ≤ x.0 = r.0 in omega arith
  rises_low low (x ∷ xs) r a (inr h) = let l : low ≤ x.0 = r.0 in let k : x.0 + 1 ≤ a.0 = rises_low (x.0 + 1) xs r.1 a h in omega arith

  pub rises_from : (low k : ℕ) (xs : List (ℕ × E)) → k ≤ low → Rises low xs → Rises k xs
  rises_from low k [] h r = tt
  rises_from low k (x ∷ xs) h r = let l : low ≤ x.0 = r.0 in let g : k ≤ x.0 = omega arith in (g, r.1)

  rises_kept : (low : ℕ) (x : ℕ × E) (ys : List (ℕ × E)) (b : Bool) → low ≤ x.0 → Rises (x.0 + 1) ys → Rises low (cond b (x ∷ ys) ys)
  rises_kept low x ys true l r = (l, r)
  rises_kept low x ys false l r = let g : low ≤ x.0 + 1 = omega arith in rises_from (x.0 + 1) low ys g r

  pub rises_filter : (p : ℕ × E → Bool) (low : ℕ) (xs : List (ℕ × E)) → Rises low xs → Rises low (filter p xs)
  rises_filter p low [] r = tt
  rises_filter p low (x ∷ xs) r = rises_kept low x (filter p xs) (p x) r.0 (rises_filter p (x.0 + 1) xs r.1)

  pub rises_last : (low : ℕ) (xs : List (ℕ × E)) (z : ℕ × E) → low ≤ z.0 → ((a : ℕ × E) → In a xs → a.0 < z.0) → Rises low xs → Rises low (xs ++ z ∷ [])
  rises_last low [] z l h r = (l, tt)
  rises_last low (x ∷ xs) z l h r = let k : x.0 < z.0 = h x (inl refl) in let g : x.0 + 1 ≤ z.0 = omega arith in (r.0, rises_last (x.0 + 1) xs z g (λ a t. h a (inr t)) r.1)

  -- the first entries of two rising lists with the same members
  heads : (x y : ℕ × E) (xs ys : List (ℕ × E)) → Rises (x.0 + 1) xs → Rises (y.0 + 1) ys → In x (y ∷ ys) → In y (x ∷ xs) → x ≡ y
  heads x y xs ys r s (inl e) k = e
  heads x y xs ys r s (inr h) (inl e) = sym e
  heads x y xs ys r s (inr h) (inr k) = let a : y.0 + 1 ≤ x.0 = rises_low (y.0 + 1) ys s x h in let b : x.0 + 1 ≤ y.0 = rises_low (x.0 + 1) xs r y k in absurd (omega arith)

  later : (x y c : ℕ × E) (xs ys : List (ℕ × E)) → Rises (x.0 + 1) xs → x ≡ y → In c xs → In c (y ∷ ys) → In c ys
  later x y c xs ys r e h (inr k) = k
  later x y c xs ys r e h (inl q) = let a : x.0 + 1 ≤ c.0 = rises_low (x.0 + 1) xs r c h in let b : c.0 ≡ x.0 = ap (λ (t : ℕ × E). t.0) (q ∙ sym e) in absurd (omega arith)

  -- two rising lists with the same members are one
  pub same_members : (low k : ℕ) (xs ys : List (ℕ × E)) → Rises low xs → Rises k ys → ((a : ℕ × E) → In a xs → In a ys) → ((a : ℕ × E) → In a ys → In a xs) → xs ≡ ys
  same_members low k [] [] r s f g = refl
  same_members low k [] (y ∷ ys) r s f g = absurd (g y (inl refl))
  same_members low k (x ∷ xs) [] r s f g = absurd (f x (inl refl))
  same_members low k (x ∷ xs) (y ∷ ys) r s f g =
      let e : x ≡ y = heads x y xs ys r.1 s.1 (f x (inl refl)) (g y (inl refl)) in
      let t : xs ≡ ys = same_members (x.0 + 1) (y.0 + 1) xs ys r.1 s.1
      (λ c h. later x y c xs ys r.1 e h (f c (inr h)))
      (λ c h. later y x c ys xs s.1 (sym e) h (g c (inr h))) in
      λ i. e i ∷ t i

  -- the same, of what a test passes
  pub same_filter : (p : ℕ × E → Bool) (xs ys : List (ℕ × E)) → Rises 0 xs → Rises 0 ys → ((a : ℕ × E) → In a xs → p a ≡ true → In a ys) → ((a : ℕ × E) → In a ys → p a ≡ true → In a xs) → filter p xs ≡ filter p ys
  same_filter p xs ys r s f g = same_members 0 0 (filter p xs) (filter p ys) (rises_filter p 0 xs r) (rises_filter p 0 ys s)
      (λ a h. let t = in_filter p a xs h in filter_in p a ys (f a t.0 t.1) t.1)
      (λ a h. let t = in_filter p a ys h in filter_in p a xs (g a t.0 t.1) t.1)

  pub in_below : (n : ℕ) (a : ℕ × E) (xs : List (ℕ × E)) → In a xs → a.0 < n → In a (below n xs)
  in_below n a xs h l = filter_in (λ (t : ℕ × E). nat_lt t.0 n) a xs h (lt-ltb a.0 n l)

  pub below_in : (n : ℕ) (a : ℕ × E) (xs : List (ℕ × E)) → In a (below n xs) → In a xs × (a.0 < n)
  below_in n a xs h = let t = in_filter (λ (t : ℕ × E). nat_lt t.0 n) a xs h in (t.0, ltb-true a.0 n t.1)

  -- what a test of the numbers chose
  chosen : (a b c : ℕ × E) (bs more : List (ℕ × E)) (s t : Bool) → (In c more → (c ≡ a) ⊎ In c bs) → In c (cond s (a ∷ (b ∷ bs)) (cond t (b ∷ more) (b ∷ bs))) → (c ≡ a) ⊎ In c (b ∷ bs)
  chosen a b c bs more true t f (inl q) = inl q
  chosen a b c bs more true t f (inr h) = inr h
  chosen a b c bs more false true f (inl q) = inr (inl q)
  chosen a b c bs more false true f (inr h) = ⊎_elim (λ q. inl q) (λ k. inr (inr k)) (f h)
  chosen a b c bs more false false f h = inr h

  pub in_insert : (a c : ℕ × E) (bs : List (ℕ × E)) → In c (insert a bs) → (c ≡ a) ⊎ In c bs
  in_insert a c [] (inl q) = inl q
  in_insert a c [] (inr h) = absurd h
  in_insert a c (b ∷ bs) h = chosen a b c bs (insert a bs) (nat_lt a.0 b.0) (nat_lt b.0 a.0) (in_insert a c bs) h

  stays : (a b c : ℕ × E) (bs more : List (ℕ × E)) (s t : Bool) → (In c bs → In c more) → In c (b ∷ bs) → In c (cond s (a ∷ (b ∷ bs)) (cond t (b ∷ more) (b ∷ bs)))
  stays a b c bs more true t f h = inr h
  stays a b c bs more false true f (inl q) = inl q
  stays a b c bs more false true f (inr h) = inr (f h)
  stays a b c bs more false false f h = h

  pub insert_old : (a c : ℕ × E) (bs : List (ℕ × E)) → In c bs → In c (insert a bs)
  insert_old a c [] h = absurd h
  insert_old a c (b ∷ bs) h = stays a b c bs (insert a bs) (nat_lt a.0 b.0) (nat_lt b.0 a.0) (insert_old a c bs) h

  comes : (a b : ℕ × E) (bs more : List (ℕ × E)) (s t : Bool) → nat_lt a.0 b.0 ≡ s → nat_lt b.0 a.0 ≡ t → In a more → (b.0 ≡ a.0 → a ≡ b) → In a (cond s (a ∷ (b ∷ bs)) (cond t (b ∷ more) (b ∷ bs)))
  comes a b bs more true t e f h q = inl refl
  comes a b bs more false true e f h q = inr h
  comes a b bs more false false e f h q = let l : b.0 ≤ a.0 = ltb-false a.0 b.0 e in let k : a.0 ≤ b.0 = ltb-false b.0 a.0 f in let g : b.0 ≡ a.0 = omega arith in inl (q g)

  pub insert_new : (a : ℕ × E) (bs : List (ℕ × E)) → ((b : ℕ × E) → In b bs → b.0 ≡ a.0 → a ≡ b) → In a (insert a bs)
  insert_new a [] h = inl refl
  insert_new a (b ∷ bs) h = comes a b bs (insert a bs) (nat_lt a.0 b.0) (nat_lt b.0 a.0) refl refl (insert_new a bs (λ c t. h c (inr t))) (h b (inl refl))

  put : (low : ℕ) (a b : ℕ × E) (bs more : List (ℕ × E)) (s t : Bool) → nat_lt a.0 b.0 ≡ s → nat_lt b.0 a.0 ≡ t → low ≤ a.0 → low ≤ b.0 → Rises (b.0 + 1) bs → (b.0 + 1 ≤ a.0 → Rises (b.0 + 1) more) → Rises low (cond s (a ∷ (b ∷ bs)) (cond t (b ∷ more) (b ∷ bs)))
  put low a b bs more true t e f la lb r g = let l : a.0 < b.0 = ltb-true a.0 b.0 e in let k : a.0 + 1 ≤ b.0 = omega arith in (la, (k, r))
  put low a b bs more false true e f la lb r g = let l : b.0 < a.0 = ltb-true b.0 a.0 f in let k : b.0 + 1 ≤ a.0 = omega arith in (lb, g k)
  put low a b bs more false false e f la lb r g = (lb, r)

  pub rises_insert : (low : ℕ) (a : ℕ × E) (bs : List (ℕ × E)) → low ≤ a.0 → Rises low bs → Rises low (insert a bs)
  rises_insert low a [] l r = (l, tt)
  rises_insert low a (b ∷ bs) l r = put low a b bs (insert a bs) (nat_lt a.0 b.0) (nat_lt b.0 a.0) refl refl l r.0 r.1 (λ k. rises_insert (b.0 + 1) a bs k r.1)

  pub rises_union : (low : ℕ) (xs ys : List (ℕ × E)) → Rises low xs → Rises low ys → Rises low (union xs ys)
  rises_union low [] ys r s = s
  rises_union low (a ∷ xs) ys r s = let g : low ≤ a.0 + 1 = let l : low ≤ a.0 = r.0 in omega arith in rises_insert low a (union xs ys) r.0 (rises_union low xs ys (rises_from (a.0 + 1) low xs g r.1) s)

  pub in_union : (c : ℕ × E) (xs ys : List (ℕ × E)) → In c (union xs ys) → In c xs ⊎ In c ys
  in_union c [] ys h = inr h
  in_union c (a ∷ xs) ys h = ⊎_elim (λ q. inl (inl q)) (λ t. ⊎_elim (λ k. inl (inr k)) (λ k. inr k) (in_union c xs ys t)) (in_insert a c (union xs ys) h)

  pub union_right : (c : ℕ × E) (xs ys : List (ℕ × E)) → In c ys → In c (union xs ys)
  union_right c [] ys h = h
  union_right c (a ∷ xs) ys h = insert_old a c (union xs ys) (union_right c xs ys h)

  -- one entry at most at each number
  abbrev pub OneAt : List (ℕ × E) → List (ℕ × E) → Type 0
  OneAt xs ys = (a b : ℕ × E) → In a xs → In b ys → a.0 ≡ b.0 → a ≡ b

  apart : (a b : ℕ × E) (xs ys : List (ℕ × E)) → Rises (a.0 + 1) xs → ((b : ℕ × E) → In b ys → a.0 ≡ b.0 → a ≡ b) → b.0 ≡ a.0 → In b xs ⊎ In b ys → a ≡ b
  apart a b xs ys r f e (inl h) = let l : a.0 + 1 ≤ b.0 = rises_low (a.0 + 1) xs r b h in absurd (omega arith)
  apart a b xs ys r f e (inr h) = f b h (sym e)

  pub union_left : (low : ℕ) (c : ℕ × E) (xs ys : List (ℕ × E)) → Rises low xs → OneAt xs ys → In c xs → In c (union xs ys)
  union_left low c [] ys r f h = absurd h
  union_left low c (a ∷ xs) ys r f (inl q) =
      let P : ℕ × E → Type 0 = λ t. In t (insert a (union xs ys)) in
      subst P (sym q) (insert_new a (union xs ys) (λ b h e. apart a b xs ys r.1 (λ d t. f a d (inl refl) t) e (in_union b xs ys h)))
  union_left low c (a ∷ xs) ys r f (inr h) = insert_old a c (union xs ys) (union_left (a.0 + 1) c xs ys r.1 (λ s t k. f s t (inr k)) h)

module _ {A : Type 0} where
  passed : (b : Bool) (x : A) (xs ys : List A) → b ≡ true → ys ≡ xs → cond b (x ∷ ys) ys ≡ x ∷ xs
  passed true x xs ys e q = ap (λ t. x ∷ t) q
  passed false x xs ys e q = absurd (true≢false (sym e))

  pub filter_all : (p : A → Bool) (xs : List A) → ((a : A) → In a xs → p a ≡ true) → filter p xs ≡ xs
  filter_all p [] h = refl
  filter_all p (x ∷ xs) h = passed (p x) x xs (filter p xs) (h x (inl refl)) (filter_all p xs (λ a t. h a (inr t)))

  failed : (b : Bool) (z : A) → b ≡ false → cond b (z ∷ []) [] ≡ []
  failed true z e = absurd (true≢false e)
  failed false z e = refl

  pub filter-last_out : (p : A → Bool) (xs : List A) (z : A) → p z ≡ false → filter p (xs ++ z ∷ []) ≡ filter p xs
  filter-last_out p xs z e = filter-append p xs (z ∷ []) ∙ ap (λ t. filter p xs ++ t) (failed (p z) z e) ∙ append-nil (filter p xs)

  pub filter-last_in : (p : A → Bool) (xs : List A) (z : A) → p z ≡ true → filter p (xs ++ z ∷ []) ≡ filter p xs ++ z ∷ []
  filter-last_in p xs z e = filter-append p xs (z ∷ []) ∙ ap (λ t. filter p xs ++ t) (passed (p z) z [] [] e refl)

module _ {E : Type 0} where
  -- what stands below a number that is above all
  pub below_all : (n : ℕ) (xs : List (ℕ × E)) → IsAbove n xs → below n xs ≡ xs
  below_all n xs h = filter_all (λ t. nat_lt t.0 n) xs (λ a t. lt-ltb a.0 n (h a t))

  -- a last entry changes nothing below itself
  pub below-last : (k : ℕ) (xs : List (ℕ × E)) (z : ℕ × E) → k ≤ z.0 → below k (xs ++ z ∷ []) ≡ below k xs
  below-last k xs z l = filter-last_out (λ t. nat_lt t.0 k) xs z (le-ltb z.0 k l)

  none_pass : (p : ℕ × E → Bool) (xs : List (ℕ × E)) → ((a : ℕ × E) → In a xs → p a ≡ false) → filter p xs ≡ []
  none_pass p [] h = refl
  none_pass p (x ∷ xs) h = left_out (p x) x (filter p xs) (h x (inl refl)) (none_pass p xs (λ a t. h a (inr t))) where
    left_out : (b : Bool) (x : ℕ × E) (ys : List (ℕ × E)) → b ≡ false → ys ≡ [] → cond b (x ∷ ys) ys ≡ []
    left_out true x ys e q = absurd (true≢false e)
    left_out false x ys e q = q

  pub rises_front : (low : ℕ) (xs ys : List (ℕ × E)) → Rises low (xs ++ ys) → Rises low xs
  rises_front low [] ys r = tt
  rises_front low (x ∷ xs) ys r = (r.0, rises_front (x.0 + 1) xs ys r.1)

  pub rises_before : (low : ℕ) (xs ys : List (ℕ × E)) (z : ℕ × E) → Rises low (xs ++ z ∷ ys) → (a : ℕ × E) → In a xs → a.0 < z.0
  rises_before low [] ys z r a h = absurd h
  rises_before low (x ∷ xs) ys z r a (inl e) =
      let k : x.0 + 1 ≤ z.0 = rises_low (x.0 + 1) (xs ++ z ∷ ys) r.1 z (in_right z xs (z ∷ ys) (inl refl)) in
      let l : a.0 ≡ x.0 = ap (λ (t : ℕ × E). t.0) e in omega arith
  rises_before low (x ∷ xs) ys z r a (inr h) = rises_before (x.0 + 1) xs ys z r.1 a h

  pub rises_after : (low : ℕ) (xs ys : List (ℕ × E)) (z : ℕ × E) → Rises low (xs ++ z ∷ ys) → (a : ℕ × E) → In a (z ∷ ys) → z.0 ≤ a.0
  rises_after low [] ys z r a (inl e) = let l : a.0 ≡ z.0 = ap (λ (t : ℕ × E). t.0) e in omega arith
  rises_after low [] ys z r a (inr h) = let l : z.0 + 1 ≤ a.0 = rises_low (z.0 + 1) ys r.1 a h in omega arith
  rises_after low (x ∷ xs) ys z r a h = rises_after (x.0 + 1) xs ys z r.1 a h

  -- in a rising list, what stands below an entry's number is what stands before it
  pub below_front : (xs ys : List (ℕ × E)) (z : ℕ × E) → Rises 0 (xs ++ z ∷ ys) → below z.0 (xs ++ z ∷ ys) ≡ xs
  below_front xs ys z r =
      let p : ℕ × E → Bool = λ t. nat_lt t.0 z.0 in
      let front = below_all z.0 xs (λ a t. rises_before 0 xs ys z r a t) in
      let back : filter p (z ∷ ys) ≡ [] = none_pass p (z ∷ ys) (λ a t. le-ltb a.0 z.0 (rises_after 0 xs ys z r a t)) in
      filter-append p xs (z ∷ ys) ∙ ap (λ t. below z.0 xs ++ t) back ∙ append-nil (below z.0 xs) ∙ front

  beginning : (x l : ℕ × E) (xs ls : List (ℕ × E)) → Rises (x.0 + 1) xs → Rises (l.0 + 1) ls → In x (l ∷ ls) → (l.0 < x.0 → In l (x ∷ xs)) → x ≡ l
  beginning x l xs ls r s (inl e) f = e
  beginning x l xs ls r s (inr h) f =
      let k : l.0 + 1 ≤ x.0 = rises_low (l.0 + 1) ls s x h in
      let lt : l.0 < x.0 = omega arith in
      ⊎_elim (λ e. sym e) (λ t. let g : x.0 + 1 ≤ l.0 = rises_low (x.0 + 1) xs r l t in absurd (omega arith)) (f lt)

  -- of two rising lists, one that has with an entry each earlier one of the other begins the other
  pub begins : (low k : ℕ) (xs ls : List (ℕ × E)) → Rises low xs → Rises k ls → ((a : ℕ × E) → In a xs → In a ls) → ((a b : ℕ × E) → In a xs → In b ls → b.0 < a.0 → In b xs) → (rest : List (ℕ × E)) × (ls ≡ xs ++ rest)
  begins low k [] ls r s f g = (ls, refl)
  begins low k (x ∷ xs) [] r s f g = absurd (f x (inl refl))
  begins low k (x ∷ xs) (l ∷ ls) r s f g =
      let e : x ≡ l = beginning x l xs ls r.1 s.1 (f x (inl refl)) (g x l (inl refl) (inl refl)) in
      let n : x.0 ≡ l.0 = ap (λ (t : ℕ × E). t.0) e in
      let t = begins (x.0 + 1) (l.0 + 1) xs ls r.1 s.1
      (λ a h. later x l a xs ls r.1 e h (f a (inr h)))
      (λ a b h o lt. ⊎_elim
      (λ q. let u : l.0 + 1 ≤ b.0 = rises_low (l.0 + 1) ls s.1 b o in let v : b.0 ≡ x.0 = ap (λ (t : ℕ × E). t.0) q in absurd (omega arith))
      (λ q. q)
      (g a b (inr h) (inr o) lt)) in
      (t.0, λ i. sym e i ∷ t.1 i)
