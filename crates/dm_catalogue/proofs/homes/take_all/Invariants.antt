use Rattle.std.proofs.Common.{◌≡◌, drop}
use Rattle.dm_catalogue.specs.Sums.{without_all}
use Rattle.dm_catalogue.proofs.homes.take_all.Given as goal

abbrev pub invariant-loop-chunk : goal.invariant-loop-chunk
invariant-loop-chunk l = without_all (drop l.chunk-index l.chunks) l.homes.rows ≡ without_all l.chunks l.fn.homes.rows
