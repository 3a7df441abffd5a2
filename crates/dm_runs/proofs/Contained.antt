-- Elements of lists.
use Rattle.std.proofs.Common.{◌≡◌, ◌⊎◌, Bool, true, false, cond, List, [], ◌∷◌, Contains, map, refl, sym, ap, subst, inl, inr, arith}
use Rattle.std.specs.List.{AllByRecursion, filter, flat_map}
use Rattle.std.proofs.lemmas.List.Elements.{Contains-append_left, Contains-append_right}
use Rattle.dm_invariant.specs.Among.{IsAmong}
use Rattle.dm_invariant.proofs.Lists.{among_either, among_mapped}

-- the first element
pub contains_first : {X : Type 0} (x : X) (xs : List X) → Contains (x ∷ xs) x
contains_first x xs = (0, omega arith, refl)

-- one of those behind it
pub contains_later : {X : Type 0} (y : X) (xs : List X) (x : X) → Contains xs x → Contains (y ∷ xs) x
contains_later y xs x has = Contains-append_right (y ∷ []) xs x has

pub contains_among : {X : Type 0} (x : X) (xs : List X) → IsAmong x xs → Contains xs x
contains_among x [] among = absurd among
contains_among x (y ∷ ys) (inl same) = subst (λ z. Contains (y ∷ ys) z) (sym same) (contains_first y ys)
contains_among x (y ∷ ys) (inr later) = contains_later y ys x (contains_among x ys later)

-- what a function gives of an element
pub contains_mapped : {X Y : Type 0} (f : X → Y) (x : X) (xs : List X) → IsAmong x xs → Contains (map f xs) (f x)
contains_mapped f x xs among = contains_among (f x) (map f xs) (among_mapped f x xs among)

-- an element of the list that is made of an element
pub contains_flat : {X Y : Type 0} (f : X → List Y) (x : X) (xs : List X) (y : Y) → IsAmong x xs → Contains (f x) y → Contains (flat_map f xs) y
contains_flat f x [] y among has = absurd among
contains_flat f x (z ∷ zs) y (inl same) has =
    Contains-append_left (f z) (flat_map f zs) y (subst (λ l. Contains l y) (ap f same) has)
contains_flat f x (z ∷ zs) y (inr later) has = Contains-append_right (f z) (flat_map f zs) y (contains_flat f x zs y later has)

-- of a list that is there where a test is true
pub contains_if : {X : Type 0} (b : Bool) (xs : List X) (x : X) → b ≡ true → Contains xs x → Contains (cond b xs []) x
contains_if b xs x is has = subst (λ t. Contains (cond t xs []) x) (sym is) has

-- an element of the list that is made of elements is one of those that some element gives
pub flat_among : {X Y : Type 0} (f : X → List Y) (y : Y) (xs : List X) → IsAmong y (flat_map f xs) → (x : X) × IsAmong x xs × IsAmong y (f x)
flat_among f y [] among = absurd among
flat_among f y (x ∷ xs) among =
    elim (among_either y (f x) (flat_map f xs) among) [
      | inl here ↦ (x, inl refl, here)
      | inr after ↦ let z = flat_among f y xs after in (z.0, inr z.1, z.2)
    ]

-- one that is left of a list is one of it
pub filter_among : {X : Type 0} (t : X → Bool) (x : X) (xs : List X) → IsAmong x (filter t xs) → IsAmong x xs
filter_among t x [] among = absurd among
filter_among {X} t x (y ∷ ys) among =
    elim (t y) as (λ b. IsAmong x (cond b (y ∷ filter t ys) (filter t ys)) → (x ≡ y) ⊎ IsAmong x ys) [
      | true ↦ λ a. elim a [ inl same ↦ inl same | inr after ↦ inr (filter_among t x ys after) ]
      | false ↦ λ a. inr (filter_among t x ys a)
    ] among

-- what holds of each holds of one
pub each_among : {X : Type 0} (P : X → Type 0) (x : X) (xs : List X) → AllByRecursion P xs → IsAmong x xs → P x
each_among P x [] all among = absurd among
each_among P x (y ∷ ys) all (inl same) = subst P (sym same) all.0
each_among P x (y ∷ ys) all (inr after) = each_among P x ys all.1 after
