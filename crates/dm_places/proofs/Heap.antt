-- A heap of spots whose order is turned round has the first spot on top.
use Rattle.std.proofs.Common.{◌≡◌, ◌<◌, ◌∷◌, ◌∙◌, Bool, true, false, cond, List, [], All, Contains, length, map as map_list, slice_index_or, refl, sym, ap, subst, arith}
use Rattle.std.specs.BinaryHeap.{IsUpperBound}
use Rattle.std.specs.List.{filter}
use Rattle.std.specs.List.Sorted.{IsPermutation}
use Rattle.std.specs.declared.cmp.Reverse.{Reverse}
use Rattle.std.proofs.lemmas.List.Elements.{All-nil, All-cons}
use Rattle.std.proofs.lemmas.List.Sorted.{IsPermutation-map}
use Rattle.dm_places.specs.declared.spot.Spot.{Spot}
use Rattle.dm_places.specs.Order.{IsFirst, IsNotPast, latest_first}
use Rattle.dm_places.proofs.Order.{not_past, one_first}

-- the spots of a heap's elements
abbrev pub spots_of : List (Reverse Spot) → List Spot
spots_of = map_list (λ r. r.0)

least : (x : Reverse Spot) (items : List (Reverse Spot)) → IsUpperBound latest_first x items → All (IsNotPast x.0) (spots_of items)
least x [] h = All-nil (IsNotPast x.0)
least x (y ∷ ys) h = All-cons (IsNotPast x.0) y.0 (spots_of ys) (not_past x.0 y.0 h.0) (least x ys h.1)

top_among : (x : Reverse Spot) (items : List (Reverse Spot)) → 0 < length items → x ≡ slice_index_or items 0 x → Contains (spots_of items) x.0
top_among x [] some at = absurd (omega arith)
top_among x (y ∷ ys) some at = (0, omega arith, ap (λ r. r.0) (sym at))

-- the top is the first spot
pub top_first : (x : Reverse Spot) (items : List (Reverse Spot)) → 0 < length items → x ≡ slice_index_or items 0 x → IsUpperBound latest_first x items → IsFirst (spots_of items) x.0
top_first x items some at above = record { among = top_among x items some at; least = least x items above }

-- the top goes, so the first spot does
pub top_gone : (x : Reverse Spot) (items rest : List (Reverse Spot)) → IsFirst (spots_of items) x.0 → IsPermutation items (x ∷ rest)
    → (y : Spot) → IsFirst (spots_of items) y → IsPermutation (spots_of items) (y ∷ spots_of rest)
top_gone x items rest first moved y other =
    subst (λ z. IsPermutation (spots_of items) (z ∷ spots_of rest)) (one_first (spots_of items) x.0 y first other) (IsPermutation-map (λ r. r.0) items (x ∷ rest) moved)

spots_filtered : (t : Spot → Bool) (items : List (Reverse Spot)) → spots_of (filter (λ r. t r.0) items) ≡ filter t (spots_of items)
spots_filtered t [] = refl
spots_filtered t (x ∷ xs) =
    elim (t x.0) as (λ b. spots_of (cond b (x ∷ filter (λ r. t r.0) xs) (filter (λ r. t r.0) xs)) ≡ cond b (x.0 ∷ filter t (spots_of xs)) (filter t (spots_of xs))) [
      | true ↦ ap (λ l. x.0 ∷ l) (spots_filtered t xs)
      | false ↦ spots_filtered t xs
    ]

-- the elements whose spots pass are left, so these spots are
pub left_spots : (t : Spot → Bool) (items kept rest : List (Reverse Spot)) → kept ≡ filter (λ r. t r.0) items → IsPermutation kept rest
    → IsPermutation (filter t (spots_of items)) (spots_of rest)
left_spots t items kept rest passed moved =
    subst (λ l. IsPermutation l (spots_of rest)) (ap spots_of passed ∙ spots_filtered t items) (IsPermutation-map (λ r. r.0) kept rest moved)
