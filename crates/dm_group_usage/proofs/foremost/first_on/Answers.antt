use Rattle.std.proofs.Common.{refl, ◌∙◌}
use Rattle.dm_group_usage.proofs.Nearest.{far_begin, far_on, far_end}
use Rattle.dm_group_usage.proofs.foremost.first_on.Goals as goal

pub loop-number-init : goal.loop-number-init
loop-number-init c = far_begin c.args.vsn.0 _ _ c.args.bitfiles.now refl (c.into_iter-number-iterator.ensures.into_iter_gives ∙ c.entries-number-items.ensures.rest)

pub loop-number-preserved : goal.loop-number-preserved
loop-number-preserved c = far_on c.args.vsn.0 _ _ c.loop-number.number-iterator c.next.new.self c.in-Some.number.now c.in-Some.row.now _ c.in-Some.ensures.steps c.first_in-first.ensures c.loop-number.invariant

pub returns : goal.returns
returns c = far_end c.args.vsn.0 _ _ _ c.in-None.ensures.steps.0 c.loop-number.invariant
