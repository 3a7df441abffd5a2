-- How many entries a history has: as few as its homes allow.
use Rattle.std.proofs.Common.{◌≡◌, ℕ, ◌+◌, ◌*◌, ◌≤◌, Bool, true, false, not, cond, List, [], ◌∷◌, ◌++◌, length, filter, refl, sym, ap, ◌∙◌, subst, inl, inr, le_trans, mul-le-mul_right, suc-mul, length-append, arith}
use Rattle.std.proofs.lemmas.Bool.{not-true, true≢false}
use Rattle.std.proofs.lemmas.List.Elements.{filter-append}
use Rattle.std.proofs.lemmas.List.Filters.{length-filter_both}
use Rattle.dm_spine.specs.Past.{Meaning, Lawful, In, at_home}
use Rattle.dm_spine.specs.Rule.{IsLog}
use Rattle.dm_spine.proofs.Lists.{in_filter}

module _ {A : Type 0} where
  fewer : (b c : Bool) (x : A) (xs ys : List A) → length ys ≤ length xs → (b ≡ true → c ≡ true) → length (cond b (x ∷ ys) ys) ≤ length (cond c (x ∷ xs) xs)
  fewer true true x xs ys h f = omega arith
  fewer true false x xs ys h f = absurd (true≢false (sym (f refl)))
  fewer false true x xs ys h f = omega arith
  fewer false false x xs ys h f = h

  pub length-filter_le : (p : A → Bool) (xs : List A) → length (filter p xs) ≤ length xs
  length-filter_le p [] = omega arith
  length-filter_le p (x ∷ xs) = fewer (p x) true x xs (filter p xs) (length-filter_le p xs) (λ e. refl)

  dropped : (p q : A → Bool) (x : A) (xs : List A) (b : Bool) → length (filter p (filter q xs)) ≤ length (filter p xs) → length (filter p (cond b (x ∷ filter q xs) (filter q xs))) ≤ length (cond (p x) (x ∷ filter p xs) (filter p xs))
  dropped p q x xs true h = fewer (p x) (p x) x (filter p xs) (filter p (filter q xs)) h (λ e. e)
  dropped p q x xs false h = fewer false (p x) x (filter p xs) (filter p (filter q xs)) h (λ e. absurd (true≢false (sym e)))

  -- a filter of a filter keeps no more
  pub length-filter_filter : (p q : A → Bool) (xs : List A) → length (filter p (filter q xs)) ≤ length (filter p xs)
  length-filter_filter p q [] = omega arith
  length-filter_filter p q (x ∷ xs) = dropped p q x xs (q x) (length-filter_filter p q xs)

module _ {S N E : Type 0} (m : Meaning S N E) (ok : Lawful m) where
  elsewhere : (h n : N) (hs : List N) → In n (h ∷ hs) → m.same n h ≡ false → In n hs
  elsewhere h n hs (inl e) f = let P : N → Type 0 = λ x. m.same x h ≡ true in absurd (true≢false (sym (subst P (sym e) (ok.same_self h)) ∙ f))
  elsewhere h n hs (inr k) f = k

  -- no more entries than homes, times what each home has at most
  pub counted : (c : ℕ) (hs : List N) (xs : List (ℕ × E)) → ((a : ℕ × E) → In a xs → In (m.home a.1) hs) → ((h : N) → at_home m h xs ≤ c) → length xs ≤ length hs * c
  counted c [] [] f g = omega arith
  counted c [] (x ∷ xs) f g = absurd (f x (inl refl))
  counted c (h ∷ hs) xs f g =
      let p : ℕ × E → Bool = λ a. m.same (m.home a.1) h in
      let q : ℕ × E → Bool = λ a. not (m.same (m.home a.1) h) in
      let split : length (filter p xs) + length (filter q xs) ≡ length xs = length-filter_both p q (λ a. refl) xs in
      let here : length (filter p xs) ≤ c = g h in
      let rest : length (filter q xs) ≤ length hs * c = counted c hs (filter q xs)
      (λ a t. let k = in_filter q a xs t in elsewhere h (m.home a.1) hs (f a k.0) (not-true (m.same (m.home a.1) h) k.1))
      (λ n. le_trans (length-filter_filter (λ a. m.same (m.home a.1) n) q xs) (g n)) in
      omega (arith, suc-mul (length hs) c)

  -- so the word of a spine stays at most 2 to the 63rd
  pub short : (p : S) (log : List (ℕ × E)) → IsLog m p log → length log ≤ 9223372036854775808
  short p log h =
      let most : length log ≤ length (m.fixed p) * 281474976710656 = counted 281474976710656 (m.fixed p) log h.housed h.few in
      let few : length (m.fixed p) * 281474976710656 ≤ 32768 * 281474976710656 = mul-le-mul_right 281474976710656 (ok.fixed_few p) in
      le_trans most few

  one_home : (h : N) (z : ℕ × E) (b : Bool) → length (cond b (z ∷ []) []) ≤ 1
  one_home h z true = omega arith
  one_home h z false = omega arith

  pub at_home-append : (h : N) (xs ys : List (ℕ × E)) → at_home m h (xs ++ ys) ≡ at_home m h xs + at_home m h ys
  at_home-append h xs ys = ap length (filter-append (λ a. m.same (m.home a.1) h) xs ys) ∙ length-append (filter (λ a. m.same (m.home a.1) h) xs) (filter (λ a. m.same (m.home a.1) h) ys)

  pub at_home-last : (h : N) (xs : List (ℕ × E)) (z : ℕ × E) → at_home m h (xs ++ z ∷ []) ≤ at_home m h xs + 1
  at_home-last h xs z = let e = at_home-append h xs (z ∷ []) in let l : at_home m h (z ∷ []) ≤ 1 = one_home h z (m.same (m.home z.1) h) in omega arith

  home_not : (h : N) (z : ℕ × E) (b : Bool) → b ≡ false → length (cond b (z ∷ []) []) ≡ 0
  home_not h z true e = absurd (true≢false e)
  home_not h z false e = refl

  pub at_home-other : (h : N) (xs : List (ℕ × E)) (z : ℕ × E) → m.same (m.home z.1) h ≡ false → at_home m h (xs ++ z ∷ []) ≡ at_home m h xs
  at_home-other h xs z f = let e = at_home-append h xs (z ∷ []) in let l : at_home m h (z ∷ []) ≡ 0 = home_not h z (m.same (m.home z.1) h) f in omega arith

  home_is : (h : N) (z : ℕ × E) (b : Bool) → b ≡ true → length (cond b (z ∷ []) []) ≡ 1
  home_is h z true e = refl
  home_is h z false e = absurd (true≢false (sym e))

  pub at_home-more : (xs : List (ℕ × E)) (z : ℕ × E) → at_home m (m.home z.1) (xs ++ z ∷ []) ≡ at_home m (m.home z.1) xs + 1
  at_home-more xs z = let e = at_home-append (m.home z.1) xs (z ∷ []) in let l : at_home m (m.home z.1) (z ∷ []) ≡ 1 = home_is (m.home z.1) z (m.same (m.home z.1) (m.home z.1)) (ok.same_self (m.home z.1)) in omega arith
