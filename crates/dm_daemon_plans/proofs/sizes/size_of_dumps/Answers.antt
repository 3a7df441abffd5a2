use Rattle.std.proofs.Common.{◌∙◌}
use Rattle.dm_durable.specs.Dumps.{dump_size}
use Rattle.dm_daemon_plans.proofs.Sums.{summing_begin, summing_on, summing_end}
use Rattle.dm_daemon_plans.proofs.sizes.size_of_dumps.Goals as goal

pub loop-dump-init : goal.loop-dump-init
loop-dump-init c = summing_begin dump_size _ c.args.dumps.now (c.into_iter-dump-iterator.ensures.into_iter_gives ∙ c.entries-dump-items.ensures.rest)

pub loop-dump-preserved : goal.loop-dump-preserved
loop-dump-preserved c = summing_on dump_size c.loop-dump.sum c.dump_size.result c.saturating_add-sum.result _ c.loop-dump.dump-iterator c.next.new.self c.in-Some.field-0-0.now c.in-Some.dump.now c.in-Some.ensures.steps c.dump_size.ensures c.saturating_add-sum.ensures c.saturating_add-sum.type_inv c.loop-dump.invariant

pub returns : goal.returns
returns c = summing_end dump_size c.loop-dump.sum _ _ c.in-None.ensures.steps.0 c.loop-dump.invariant
