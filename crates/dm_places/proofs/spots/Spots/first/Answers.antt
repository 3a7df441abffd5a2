use Rattle.std.proofs.Common.{◌<◌, ap, subst, length, refl, arith}
use Rattle.std.specs.BinaryHeap.{heap_items, heap_len}
use Rattle.dm_places.specs.Order.{IsFirst}
use Rattle.dm_places.proofs.Heap.{top_first}
use Rattle.dm_places.proofs.spots.Spots.first.Goals as goal

pub returns-in-Some-clause-first : goal.returns-in-Some-clause-first
returns-in-Some-clause-first c =
    let heap = c.self.inside.heap in
    let many : 0 < heap_len heap = c.in-Some.ensures.variant.0 refl in
    let as_long = heap.data.ok.0 in
    let some : 0 < length (heap_items heap) = omega arith in
    subst (λ l. IsFirst l c.in-Some.first.now.0) (ap (λ q. q.spots) c.self.view_is)
    (top_first c.in-Some.first.now (heap_items heap) some c.in-Some.ensures.lookup (c.in-Some.ensures.greatest c.self.invariant.0))
