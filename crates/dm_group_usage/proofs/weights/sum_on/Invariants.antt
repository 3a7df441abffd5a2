use Rattle.dm_tables.specs.Totals.{sum_of}
use Rattle.dm_group_usage.specs.Measures.{measure_on}
use Rattle.dm_group_usage.proofs.Summing.{Summing, row_measure}
use Rattle.dm_group_usage.proofs.weights.sum_on.Given as goal

abbrev pub invariant-loop-row : goal.invariant-loop-row
invariant-loop-row l = Summing l.sum (sum_of (row_measure l.more l.vsn.0) l.row-iterator) (measure_on l.bitfiles l.more l.vsn.0)
