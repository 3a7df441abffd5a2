use Rattle.std.proofs.Common.{◌≡◌, ◌++◌}
use Rattle.std.specs.Prelude as prelude
use Rattle.std.specs.FinMap.{entries}
use Rattle.dm_model.specs.GroupCalls.{bitfile_row}
use Rattle.dm_group_plans.proofs.rows.bitfile_rows.Given as goal

abbrev pub invariant-loop-number : goal.invariant-loop-number
invariant-loop-number l = l.rows.items ++ prelude.map (λ e. bitfile_row e.0 e.1) l.number-iterator ≡ prelude.map (λ e. bitfile_row e.0 e.1) (entries l.bitfiles)
