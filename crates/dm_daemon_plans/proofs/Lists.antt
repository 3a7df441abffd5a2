-- Loops that pick from the entries of a table.
use Rattle.std.proofs.Common.{◌≡◌, ℕ, List, [], ◌∷◌, ◌++◌, Option, None, Some, Bool, true, false, cond, ◌&&◌, refl, sym, ap, ◌∙◌, append_assoc, filter, slice_get}
use Rattle.std.specs.Prelude as prelude
use Rattle.std.specs.List.{list_all}
use Rattle.std.proofs.lemmas.List.{append-nil}

module _ {A B : Type 0} (f : A → B) (p : A → Bool) where
  abbrev pub picked : List A → List B
  picked es = prelude.map f (filter p es)

  -- one that passes is put behind what was picked
  pub picked_here : (out more : List B) (left rest : List A) (e : A) (whole : List B) → left ≡ e ∷ rest → p e ≡ true → more ≡ out ++ (f e ∷ []) → out ++ picked left ≡ whole → more ++ picked rest ≡ whole
  picked_here out more left rest e whole is here grown so =
      ap (λ xs. xs ++ picked rest) grown ∙ append_assoc out (f e ∷ []) (picked rest)
      ∙ sym (ap (λ es. out ++ picked es) is ∙ ap (λ b. out ++ prelude.map f (cond b (e ∷ filter p rest) (filter p rest))) here) ∙ so

  -- another is passed over
  pub picked_not : (out : List B) (left rest : List A) (e : A) (whole : List B) → left ≡ e ∷ rest → p e ≡ false → out ++ picked left ≡ whole → out ++ picked rest ≡ whole
  picked_not out left rest e whole is not so =
      sym (ap (λ es. out ++ picked es) is ∙ ap (λ b. out ++ prelude.map f (cond b (e ∷ filter p rest) (filter p rest))) not) ∙ so

  pub picked_end : (out : List B) (left : List A) (whole : List B) → left ≡ [] → out ++ picked left ≡ whole → out ≡ whole
  picked_end out left whole none so = sym (append-nil out) ∙ sym (ap (λ es. out ++ picked es) none) ∙ so

  -- ---- the first that is picked

  abbrev pub first_picked : List A → Option B
  first_picked es = slice_get (picked es) 0

  pub first_here : (left rest : List A) (e : A) (whole : Option B) → left ≡ e ∷ rest → p e ≡ true → first_picked left ≡ whole → Some (f e) ≡ whole
  first_here left rest e whole is here so =
      sym (ap first_picked is ∙ ap (λ b. slice_get (prelude.map f (cond b (e ∷ filter p rest) (filter p rest))) 0) here) ∙ so

  pub first_not : (left rest : List A) (e : A) (whole : Option B) → left ≡ e ∷ rest → p e ≡ false → first_picked left ≡ whole → first_picked rest ≡ whole
  first_not left rest e whole is not so =
      sym (ap first_picked is ∙ ap (λ b. slice_get (prelude.map f (cond b (e ∷ filter p rest) (filter p rest))) 0) not) ∙ so

  pub first_end : (left : List A) (whole : Option B) → left ≡ [] → first_picked left ≡ whole → None ≡ whole
  first_end left whole none so = sym (ap first_picked none) ∙ so

-- a test of what each gives
pub all_mapped : {A B : Type 0} (p : B → Bool) (f : A → B) (xs : List A) → list_all (λ x. p (f x)) xs ≡ list_all p (prelude.map f xs)
all_mapped p f [] = refl
all_mapped p f (x ∷ xs) = ap (λ b. p (f x) && b) (all_mapped p f xs)
