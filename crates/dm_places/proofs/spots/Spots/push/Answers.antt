use Rattle.std.proofs.Common.{◌∷◌, ap, subst}
use Rattle.std.specs.BinaryHeap.{heap_items}
use Rattle.std.specs.List.Sorted.{IsPermutation}
use Rattle.std.proofs.lemmas.List.Sorted.{IsPermutation-map}
use Rattle.dm_places.proofs.Heap.{spots_of}
use Rattle.dm_places.proofs.spots.Spots.push.Goals as goal

pub returns-clause-spots : goal.returns-clause-spots
returns-clause-spots c =
    subst (λ l. IsPermutation (c.args.spot ∷ l) (spots_of (heap_items c.push.new.self))) (ap (λ q. q.spots) c.self.view_is)
    (IsPermutation-map (λ r. r.0) (record { 0 = c.args.spot } ∷ heap_items c.self.inside.heap) (heap_items c.push.new.self) c.in-Ok.ensures.permutation)
