use Rattle.std.proofs.Common.{arith}
use Rattle.std.proofs.lemmas.List.Sorted.{length_permutation}
use Rattle.dm_places.proofs.tests.serves_again.Goals as goal

pub push-requires-2 : goal.push-requires-2
push-requires-2 c = omega (arith, c.drop_first.ensures.places, c.drop_first.ensures.len, length_permutation _ _ c.push.ensures.spots)

pub push-requires-3 : goal.push-requires-3
push-requires-3 c = omega (arith, c.clear.ensures.spare, length_permutation _ _ c.push-2.ensures.spots)
