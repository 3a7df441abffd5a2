-- What is among the elements of a list, and tests over lists.
use Rattle.std.proofs.Common.{◌≡◌, ◌⊎◌, inl, inr, Bool, true, false, cond, ◌||◌, List, [], ◌∷◌, ◌++◌, map, refl, sym, ap, ◌∙◌}
use Rattle.std.specs.List.{list_any, list_all}
use Rattle.std.proofs.lemmas.Bool.{and_parts, or_left, or_right}
use Rattle.dm_invariant.specs.Among.{IsAmong}

-- an element of the first of two lists is among both joined
pub among_front : {X : Type 0} (x : X) (xs ys : List X) → IsAmong x xs → IsAmong x (xs ++ ys)
among_front x [] ys among = absurd among
among_front x (y ∷ xs) ys among = elim among [ inl same ↦ inl same | inr after ↦ inr (among_front x xs ys after) ]

-- and so is one of the second
pub among_back : {X : Type 0} (x : X) (xs ys : List X) → IsAmong x ys → IsAmong x (xs ++ ys)
among_back x [] ys among = among
among_back x (y ∷ xs) ys among = inr (among_back x xs ys among)

-- what is among both joined is among one of them
pub among_either : {X : Type 0} (x : X) (xs ys : List X) → IsAmong x (xs ++ ys) → IsAmong x xs ⊎ IsAmong x ys
among_either x [] ys a = inr a
among_either x (z ∷ zs) ys (inl same) = inl (inl same)
among_either x (z ∷ zs) ys (inr a) =
    elim (among_either x zs ys a) [ inl b ↦ inl (inr b) | inr b ↦ inr b ]

-- what is among a list that is there only if a test passes is among the list
pub among_if : {X : Type 0} (b : Bool) (x : X) (xs : List X) → IsAmong x (cond b xs []) → IsAmong x xs
among_if true x xs a = a
among_if false x xs a = absurd a

-- the value of a function at an element is among the values
pub among_mapped : {X Y : Type 0} (f : X → Y) (x : X) (xs : List X) → IsAmong x xs → IsAmong (f x) (map f xs)
among_mapped f x [] among = absurd among
among_mapped f x (y ∷ ys) (inl same) = inl (ap f same)
among_mapped f x (y ∷ ys) (inr after) = inr (among_mapped f x ys after)

-- and each value is that of an element
pub mapped_among : {X Y : Type 0} (f : X → Y) (y : Y) (xs : List X) → IsAmong y (map f xs) → (x : X) × IsAmong x xs × (f x ≡ y)
mapped_among f y [] among = absurd among
mapped_among f y (x ∷ xs) (inl same) = (x, inl refl, sym same)
mapped_among f y (x ∷ xs) (inr after) = let z = mapped_among f y xs after in (z.0, inr z.1, z.2)

-- an element that passes a test, where one does
pub passing : {X : Type 0} (t : X → Bool) (xs : List X) → list_any t xs ≡ true → (x : X) × IsAmong x xs × (t x ≡ true)
passing t [] e = cc
passing {X} t (x ∷ xs) e =
    elim (t x) as (λ b. t x ≡ b → (b || list_any t xs) ≡ true → (y : X) × ((y ≡ x) ⊎ IsAmong y xs) × (t y ≡ true)) [
      | true ↦ λ here _. (x, inl refl, here)
      | false ↦ λ _ rest. let y = passing t xs rest in (y.0, inr y.1, y.2)
    ] refl e

-- one does where this element passes it
pub one_passes : {X : Type 0} (t : X → Bool) (x : X) (xs : List X) → IsAmong x xs → t x ≡ true → list_any t xs ≡ true
one_passes t x [] among passes = absurd among
one_passes t x (y ∷ ys) (inl same) passes = or_left _ _ (ap t (sym same) ∙ passes)
one_passes t x (y ∷ ys) (inr after) passes = or_right _ _ (one_passes t x ys after passes)

-- each element of a list passes a test that all do
pub each_passes : {X : Type 0} (t : X → Bool) (x : X) (xs : List X) → IsAmong x xs → list_all t xs ≡ true → t x ≡ true
each_passes t x [] among all = absurd among
each_passes t x (y ∷ ys) (inl same) all = ap t same ∙ (and_parts _ _ all).0
each_passes t x (y ∷ ys) (inr after) all = each_passes t x ys after (and_parts _ _ all).1
