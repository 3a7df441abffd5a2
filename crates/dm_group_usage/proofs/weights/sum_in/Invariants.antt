use Rattle.std.proofs.Common.{drop}
use Rattle.dm_group_usage.specs.Measures.{measure_in}
use Rattle.dm_group_usage.proofs.Summing.{Summing}
use Rattle.dm_group_usage.proofs.weights.sum_in.Given as goal

abbrev pub invariant-loop-chunk : goal.invariant-loop-chunk
invariant-loop-chunk l = Summing l.sum (measure_in l.more l.vsn.0 (drop l.chunk-index l.chunks)) (measure_in l.more l.vsn.0 l.chunks)
