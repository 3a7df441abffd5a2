use Rattle.std.proofs.Common.{ap, Some, ◌∙◌}
use Rattle.dm_rows.proofs.Methods.{value_of_row, no_value}
use Rattle.dm_rows.proofs.numbers.NumberRows.remove.Goals as goal

pub returns-in-Some-clause-value : goal.returns-in-Some-clause-value
returns-in-Some-clause-value g c = ap (λ e. Some e.1) c.into_inner.ensures ∙ value_of_row c.args.key c.in-Some.row.value _ c.in-Some.ensures.row

pub returns-in-None-clause-value : goal.returns-in-None-clause-value
returns-in-None-clause-value g c = no_value c.args.key _ c.in-None.ensures.row
