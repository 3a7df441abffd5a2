use Rattle.std.proofs.Common.{◌≡◌, ◌++◌, drop}
use Rattle.std.specs.Prelude as prelude
use Rattle.dm_model.specs.GroupCalls.{part_of}
use Rattle.sha2.specs.Sha256.{sha256}
use Rattle.dm_group_plans.proofs.commits.sums_of.Given as goal

abbrev pub invariant-loop-chunk : goal.invariant-loop-chunk
invariant-loop-chunk l = l.sums.items ++ prelude.map (λ c. sha256 (part_of l.bytes c.offset c.len)) (drop l.chunk-index l.chunks) ≡ prelude.map (λ c. sha256 (part_of l.bytes c.offset c.len)) l.chunks
