use Rattle.std.proofs.Common.{rules, subst, sym, ◌<◌, ◌^◌, ◌∙◌}
use Rattle.dm_tables.proofs.Loops.{added_whole, added_on, added_fits, added_end}
use Rattle.dm_daemon_plans.proofs.sizes.total_of.Goals as goal

pub loop-row-init : goal.loop-row-init
loop-row-init g c =
    added_whole (g.W.Weight.weight c.args.weight.now) _ _ (c.into_iter-row-iterator.ensures.into_iter_gives ∙ c.entries-row-items.ensures.rest)

pub overflow_add-sum : goal.overflow_add-sum
overflow_add-sum g c =
    let room = added_fits (g.W.Weight.weight c.args.weight.now) c.loop-row.sum c.from-sum.result _ _ c.loop-row.row-iterator c.next.new.self c.in-Some.field-0-0.now c.in-Some.row.now
    c.in-Some.ensures.steps (subst (λ n. n < 2 ^ 64) (sym c.from-sum.ensures) c.weigh.type_inv) c.entries-row-items.ensures.small c.loop-row.invariant in
    search rules

pub loop-row-preserved : goal.loop-row-preserved
loop-row-preserved g c =
    added_on (g.W.Weight.weight c.args.weight.now) c.loop-row.sum c.from-sum.result _ _ c.loop-row.row-iterator c.next.new.self c.in-Some.field-0-0.now c.in-Some.row.now
    c.in-Some.ensures.steps (c.from-sum.ensures ∙ c.weigh.ensures) (subst (λ n. n < 2 ^ 64) (sym c.from-sum.ensures) c.weigh.type_inv) c.loop-row.invariant

pub returns : goal.returns
returns g c = added_end (g.W.Weight.weight c.args.weight.now) _ _ _ _ c.in-None.ensures.steps.0 c.loop-row.invariant
