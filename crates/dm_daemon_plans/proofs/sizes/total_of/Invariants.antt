use Rattle.std.specs.FinMap.{len}
use Rattle.dm_tables.specs.Totals.{total}
use Rattle.dm_tables.proofs.Loops.{Added}
use Rattle.dm_daemon_plans.proofs.sizes.total_of.Given as goal

abbrev pub invariant-loop-row : goal.invariant-loop-row
invariant-loop-row g l =
    Added (g.W.Weight.weight l.weight) l.sum l.row-iterator (total (g.W.Weight.weight l.weight) l.rows) (len l.rows)
