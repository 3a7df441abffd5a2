use Rattle.std.proofs.Common.{◌≡◌, map, take}
use Rattle.dm_group_records.specs.Chunks.{chunk_of}
use Rattle.dm_group_records.proofs.old_steps.chunks_of.Given as goal

abbrev pub invariant-loop-chunk : goal.invariant-loop-chunk
invariant-loop-chunk l = l.chunks.items ≡ map chunk_of (take l.chunk-index l.fn.old)
