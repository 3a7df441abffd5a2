use Rattle.std.proofs.Common.{take}
use Rattle.dm_catalogue.specs.Sums.{Known, Same}
use Rattle.dm_catalogue.proofs.homes.know_all.Given as goal

abbrev pub invariant-loop-chunk : goal.invariant-loop-chunk
invariant-loop-chunk l = Same l.fn.homes.rows l.homes.rows × Known l.homes.rows (take l.chunk-index l.chunks)
