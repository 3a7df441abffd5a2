use Rattle.std.proofs.Common.{◌≡◌, ◌++◌, map, drop}
use Rattle.dm_durable.specs.Group.{chunk_or_moved}
use Rattle.dm_durable_steps.proofs.group.chunks_moved.Given as goal

abbrev pub invariant-loop-chunk : goal.invariant-loop-chunk
invariant-loop-chunk l = map (chunk_or_moved l.to) l.chunks ≡ l.moved.items ++ map (chunk_or_moved l.to) (drop l.chunk-index l.chunks)
