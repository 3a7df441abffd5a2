use Rattle.std.proofs.Common.{◌≡◌, ◌++◌, drop}
use Rattle.dm_model.specs.GroupCalls.{with_sums}
use Rattle.dm_group_plans.proofs.commits.put_chunks.Given as goal

abbrev pub invariant-loop-chunk : goal.invariant-loop-chunk
invariant-loop-chunk l = l.out.items ++ with_sums (drop l.chunk-index l.chunks) l.left ≡ l.fn.out.items ++ with_sums l.chunks l.sums
