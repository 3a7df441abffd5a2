use Rattle.dm_group_usage.proofs.Ranges.{serials_out}
use Rattle.dm_group_plans.proofs.calls.side_verdict.Goals as goal

pub returns-in-Rows-clause-range : goal.returns-in-Rows-clause-range
returns-in-Rows-clause-range c = λ error within. serials_out c.args.side.now.group (c.all_rows.ensures.range error) within
