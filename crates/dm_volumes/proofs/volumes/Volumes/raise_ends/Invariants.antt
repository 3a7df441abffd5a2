use Rattle.std.proofs.Common.{◌≡◌, drop}
use Rattle.dm_durable.specs.Group.{with_ends_behind}
use Rattle.dm_volumes.proofs.volumes.Volumes.raise_ends.Given as goal

abbrev pub invariant-loop-chunk : goal.invariant-loop-chunk
invariant-loop-chunk l =
    (with_ends_behind (drop l.chunk-index l.chunks) l.self.rows.rows ≡ with_ends_behind l.chunks l.fn.self.rows.rows)
    × (l.self.rows.spare ≡ l.fn.self.rows.spare)
