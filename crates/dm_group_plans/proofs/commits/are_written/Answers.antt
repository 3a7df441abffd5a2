use Rattle.std.proofs.Common.{ap, sym, ◌∙◌, drop, refl}
use Rattle.std.proofs.lemmas.List.{drop_all}
use Rattle.dm_group_usage.proofs.Lists.{drop_next_of, no_piece}
use Rattle.dm_group_plans.proofs.Written.{written_on, written_not, written_end}
use Rattle.dm_group_plans.proofs.commits.are_written.Goals as goal

pub loop-index-init : goal.loop-index-init
loop-index-init c = refl

pub loop-index-preserved : goal.loop-index-preserved
loop-index-preserved c = written_on c.args.bytes.now c.args.reserved.now c.args.written.now c.loop-index.index _ _ _ _ (drop_next_of c.as_slice-piece-items.result.now c.args.reserved.now.pieces c.loop-index.index no_piece c.as_slice-piece-items.ensures c.loop-index-test.true) (sym c.in_ok-holds.ensures ∙ c.if-not-holds.false) c.loop-index.invariant

pub returns-then-not-holds : goal.returns-then-not-holds
returns-then-not-holds c = written_not c.args.bytes.now c.args.reserved.now c.args.written.now c.loop-index.index _ _ _ _ (drop_next_of c.as_slice-piece-items.result.now c.args.reserved.now.pieces c.loop-index.index no_piece c.as_slice-piece-items.ensures c.loop-index-test.true) (sym c.in_ok-holds.ensures ∙ c.if-not-holds.true) c.loop-index.invariant

pub returns : goal.returns
returns c = written_end c.args.bytes.now c.args.reserved.now c.args.written.now c.loop-index.index _ _ (ap (drop c.loop-index.index) (sym c.as_slice-piece-items.ensures) ∙ drop_all c.loop-index.index c.as_slice-piece-items.result.now c.loop-index-test.false) c.loop-index.invariant
