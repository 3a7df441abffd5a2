use Rattle.std.proofs.Common.{ap, ◌∙◌}
use Rattle.dm_tables.specs.Totals.{sum_of}
use Rattle.dm_group_usage.specs.Measures.{measure_in, summed}
use Rattle.dm_group_usage.proofs.Summing.{row_measure, rows_begin, rows_on, summing_end}
use Rattle.dm_group_usage.proofs.weights.sum_on.Goals as goal

pub loop-row-init : goal.loop-row-init
loop-row-init c = rows_begin c.args.more c.args.vsn.0 _ c.args.bitfiles.now (c.into_iter-row-iterator.ensures.into_iter_gives ∙ c.entries-row-items.ensures.rest)

pub loop-row-preserved : goal.loop-row-preserved
loop-row-preserved c =
    rows_on c.args.more c.args.vsn.0 c.loop-row.row-iterator c.next.new.self c.in-Some.field-0-0.now c.in-Some.row.now c.loop-row.sum c.sum_in.result c.saturating_add-sum.result _ c.in-Some.ensures.steps
    (c.sum_in.ensures ∙ ap (λ cs. summed (measure_in c.args.more c.args.vsn.0 cs)) c.as_slice.ensures) c.saturating_add-sum.ensures c.saturating_add-sum.type_inv c.loop-row.invariant

pub returns : goal.returns
returns c = summing_end c.loop-row.sum _ _ (ap (sum_of (row_measure c.args.more c.args.vsn.0)) c.in-None.ensures.steps.0) c.loop-row.invariant
