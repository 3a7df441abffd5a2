-- The order of spots is one, and what a comparison says of it.
use Rattle.std.proofs.Common.{◌≡◌, ◌⊎◌, ◌<◌, ◌≤◌, inl, inr, false, List, [], length, Less, Equal, Greater, is_lt, nat_cmp, refl, sym, arith}
use Rattle.std.specs.Ordering.{ordering_then}
use Rattle.std.proofs.lemmas.Cmp.{ranked}
use Rattle.std.proofs.lemmas.List.Elements.{All-contains}
use Rattle.dm_places.specs.declared.spot.Spot.{Spot}
use Rattle.dm_places.specs.Order.{IsFirst, IsNotPast, spot_cmp}

-- two spots of which none lies past the other are one
pub same_spot : (x y : Spot) → IsNotPast x y → IsNotPast y x → x ≡ y
same_spot x y (inl p) (inl q) = absurd (omega arith)
same_spot x y (inl p) (inr q) = absurd (let e = q.0 in omega arith)
same_spot x y (inr p) (inl q) = absurd (let e = p.0 in omega arith)
same_spot x y (inr (pp, inl p)) (inr (qp, inl q)) = absurd (omega arith)
same_spot x y (inr (pp, inl p)) (inr (qp, inr q)) = absurd (let e = q.0 in omega arith)
same_spot x y (inr (pp, inr p)) (inr (qp, inl q)) = absurd (let e = p.0 in omega arith)
same_spot x y (inr (pp, inr p)) (inr (qp, inr q)) =
    let at : x.offset ≡ y.offset = let e = p.1 in let f = q.1 in omega arith in
    λ i. record { place = pp i; bfid = record { 0 = p.0 i }; offset = at i }

-- so there is one first spot at most
pub one_first : (spots : List Spot) (x y : Spot) → IsFirst spots x → IsFirst spots y → x ≡ y
one_first spots x y p q =
    same_spot x y (All-contains (IsNotPast x) spots y p.least q.among) (All-contains (IsNotPast y) spots x q.least p.among)

-- where there is a first spot, there is one
pub some_first : (spots : List Spot) (x : Spot) → IsFirst spots x → spots ≡ [] → ⊥
some_first spots x p e = let l : length spots ≡ 0 = cc in let k = p.among.1 in omega arith

-- a spot that isn't less than another isn't in front of it
pub not_past : (x y : Spot) → is_lt (spot_cmp y x) ≡ false → IsNotPast x y
not_past x y e =
    elim (nat_cmp y.place x.place) as (λ r. r ≡ nat_cmp y.place x.place → is_lt (ordering_then r (ordering_then (nat_cmp y.bfid.0 x.bfid.0) (nat_cmp y.offset x.offset))) ≡ false → IsNotPast x y) [
      | Less ↦ λ r f. absurd (cc)
      | Greater ↦ λ r f. inl (ranked y.place x.place Greater r)
      | Equal ↦ λ r f. inr (
        sym (ranked y.place x.place Equal r),
        elim (nat_cmp y.bfid.0 x.bfid.0) as (λ s. s ≡ nat_cmp y.bfid.0 x.bfid.0 → is_lt (ordering_then s (nat_cmp y.offset x.offset)) ≡ false → (x.bfid.0 < y.bfid.0) ⊎ ((x.bfid.0 ≡ y.bfid.0) × (x.offset ≤ y.offset))) [
          | Less ↦ λ s g. absurd (cc)
          | Greater ↦ λ s g. inl (ranked y.bfid.0 x.bfid.0 Greater s)
          | Equal ↦ λ s g. inr (
            sym (ranked y.bfid.0 x.bfid.0 Equal s),
            elim (nat_cmp y.offset x.offset) as (λ t. t ≡ nat_cmp y.offset x.offset → is_lt t ≡ false → x.offset ≤ y.offset) [
              | Less ↦ λ t h. absurd (cc)
              | Greater ↦ λ t h. let l = ranked y.offset x.offset Greater t in omega arith
              | Equal ↦ λ t h. let l = ranked y.offset x.offset Equal t in omega arith
            ] refl g,
          )
        ] refl f,
      )
    ] refl e
