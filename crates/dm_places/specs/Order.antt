-- The order of spots.
use Rattle.std.specs.Prelude.{◌≡◌, ◌<◌, ◌≤◌, ◌⊎◌, List, All, Contains}
use Rattle.std.specs.Ordering.{nat_cmp, ordering_then}
use Rattle.std.specs.declared.cmp.Ordering.{Ordering}
use Rattle.std.specs.declared.cmp.Reverse.{Reverse}
use Rattle.dm_places.specs.declared.spot.Spot.{Spot}

-- x doesn't lie past y: not by place, at one place not by bitfile, and in one bitfile not by offset
abbrev pub IsNotPast : Spot → Spot → Type 0
IsNotPast x y =
    (x.place < y.place) ⊎ ((x.place ≡ y.place) × ((x.bfid.0 < y.bfid.0) ⊎ ((x.bfid.0 ≡ y.bfid.0) × (x.offset ≤ y.offset))))

-- x is one of the spots, and lies past none of them
pub record IsFirst (spots : List Spot) (x : Spot) : Type 0 where
  pub among : Contains spots x
  pub least : All (IsNotPast x) spots

-- the same order as a comparison
abbrev pub spot_cmp : Spot → Spot → Ordering
spot_cmp x y = ordering_then (nat_cmp x.place y.place) (ordering_then (nat_cmp x.bfid.0 y.bfid.0) (nat_cmp x.offset y.offset))

-- and turned round, for a heap that has its greatest element first
abbrev pub latest_first : Reverse Spot → Reverse Spot → Ordering
latest_first x y = spot_cmp y.0 x.0
