use Rattle.std.proofs.Common.{◌≡◌, drop}
use Rattle.dm_durable.specs.Group.{chunk_at}
use Rattle.dm_group_plans.proofs.mounts.chunk_at.Given as goal

abbrev pub invariant-loop-chunk : goal.invariant-loop-chunk
invariant-loop-chunk l = chunk_at l.offset (drop l.chunk-index l.chunks) ≡ chunk_at l.offset l.chunks
