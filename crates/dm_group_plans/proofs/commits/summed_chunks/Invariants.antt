use Rattle.std.proofs.Common.{◌≡◌, ◌++◌, drop}
use Rattle.dm_model.specs.GroupCalls.{summed_chunks}
use Rattle.dm_group_plans.proofs.commits.summed_chunks.Given as goal

abbrev pub invariant-loop-piece : goal.invariant-loop-piece
invariant-loop-piece l = l.chunks.items ++ summed_chunks l.chunk (drop l.piece-index l.pieces) l.left ≡ summed_chunks l.chunk l.pieces l.sums
