use Rattle.std.proofs.Common.{sym, ◌∙◌}
use Rattle.dm_tables.proofs.Orders.{paths}
use Rattle.dm_tables.proofs.Loops.{asked_whole, asked_on, asked_here, asked_end}
use Rattle.dm_tables.proofs.texts.Texts.any.Goals as goal

pub loop-row-init : goal.loop-row-init
loop-row-init g c =
    asked_whole paths (g.T.Test.passes c.args.test.now) _ _ (c.into_iter-row-iterator.ensures.into_iter_gives ∙ c.entries-row-items.ensures.rest)

pub loop-row-preserved : goal.loop-row-preserved
loop-row-preserved g c =
    asked_on (g.T.Test.passes c.args.test.now) c.loop-row.row-iterator c.next.new.self c.in-Some.field-0-0.now c.in-Some.row.now _ c.in-Some.ensures.steps (sym c.if-test.ensures) c.loop-row.invariant

pub returns-then-test : goal.returns-then-test
returns-then-test g c =
    asked_here (g.T.Test.passes c.args.test.now) c.loop-row.row-iterator c.next.new.self c.in-Some.field-0-0.now c.in-Some.row.now _ c.in-Some.ensures.steps (sym c.if-test.ensures) c.loop-row.invariant

pub returns : goal.returns
returns g c = asked_end (g.T.Test.passes c.args.test.now) _ _ c.in-None.ensures.steps.0 c.loop-row.invariant
