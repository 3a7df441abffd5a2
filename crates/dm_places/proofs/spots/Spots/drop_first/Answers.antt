use Rattle.std.proofs.Common.{◌<◌, ◌+◌, subst, length, refl, arith}
use Rattle.std.specs.BinaryHeap.{heap_items, heap_len}
use Rattle.dm_places.specs.declared.spot.Spot.{Spot}
use Rattle.dm_places.specs.Order.{IsFirst}
use Rattle.dm_places.specs.Queue.{DropsSpot, Queue}
use Rattle.dm_places.proofs.Heap.{spots_of, top_first, top_gone}
use Rattle.dm_places.proofs.spots.Spots.drop_first.Goals as goal

pub returns-in-Some-clause-dropped : goal.returns-in-Some-clause-dropped
returns-in-Some-clause-dropped c =
    let heap = c.self.inside.heap in
    let top = c.in-Some._gone in
    let many : 0 < heap_len heap = c.in-Some.ensures.variant.0 refl in
    let as_long = heap.data.ok.0 in
    let some : 0 < length (heap_items heap) = omega arith in
    let above = (c.in-Some.ensures.heap_order c.self.invariant.0).1 in
    let first = top_first top (heap_items heap) some c.in-Some.ensures.top above in
    let new : Queue = record { spots = spots_of (heap_items c.pop.new.self); spare = c.self.inside.kept + 1 } in
    subst (λ (old : Queue). (x : Spot) → IsFirst old.spots x → DropsSpot old x new) c.self.view_is
    (λ x other. record { spots = top_gone top (heap_items heap) (heap_items c.pop.new.self) first c.in-Some.ensures.permutation x other; spare = refl })
