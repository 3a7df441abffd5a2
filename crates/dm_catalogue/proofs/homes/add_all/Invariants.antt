use Rattle.std.proofs.Common.{◌≡◌, drop}
use Rattle.dm_catalogue.specs.Sums.{with_all}
use Rattle.dm_catalogue.proofs.homes.add_all.Given as goal

abbrev pub invariant-loop-chunk : goal.invariant-loop-chunk
invariant-loop-chunk l = with_all (drop l.chunk-index l.chunks) l.homes.rows ≡ with_all l.chunks l.fn.homes.rows
