-- What clauses see of a volume's spots: those that there are, in no particular order, and for how many more there is a place.
use Rattle.std.specs.Prelude.{◌≡◌, ℕ, ◌+◌, List, ◌∷◌}
use Rattle.std.specs.List.Sorted.{IsPermutation}
use Rattle.dm_places.specs.declared.spot.Spot.{Spot}

pub record Queue : Type 0 where
  pub spots : List Spot
  -- how many spots may be put in before the queue has to grow
  pub spare : ℕ

-- the spot goes, once, and its place is kept
pub record DropsSpot (old : Queue) (x : Spot) (new : Queue) : Type 0 where
  pub spots : IsPermutation old.spots (x ∷ new.spots)
  pub spare : new.spare ≡ old.spare + 1
