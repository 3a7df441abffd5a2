use Rattle.std.proofs.Common.{◌≡◌, ap, subst, rules}
use Rattle.std.specs.BinaryHeap.{heap_items}
use Rattle.std.specs.List.{filter}
use Rattle.std.specs.List.Sorted.{IsPermutation}
use Rattle.std.proofs.lemmas.Fn.{filter_same}
use Rattle.dm_places.proofs.Heap.{left_spots, spots_of}
use Rattle.dm_places.proofs.spots.Spots.retain.Goals as goal

pub returns-clause-spots : goal.returns-clause-spots
returns-clause-spots g c =
    let passes = g.T.Test.passes c.args.test.now in
    let items = heap_items c.self.inside.heap in
    let kept = c.retain.ensures.filtered in
    let passed : kept.0 ≡ filter (λ r. passes r.0) items = filter_same _ _ _ (λ x b f k. search rules) _ _ kept.1 in
    subst (λ l. IsPermutation (filter passes l) (spots_of (heap_items c.retain.new.self))) (ap (λ q. q.spots) c.self.view_is)
    (left_spots passes items kept.0 (heap_items c.retain.new.self) passed kept.2)
