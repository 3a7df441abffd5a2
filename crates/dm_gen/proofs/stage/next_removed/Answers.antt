use Rattle.std.proofs.Common.{◌∙◌, ◌%◌, arith}
use Rattle.dm_gen.proofs.Sessions.{no_third, skip_remove}
use Rattle.dm_gen.proofs.stage.next_removed.Goals as goal

pub loop-next-preserved : goal.loop-next-preserved
loop-next-preserved c = record {
  within = omega arith;
  same = skip_remove c.args.files c.loop-next.next c.loop-next-test.true (no_third c.loop-next.next c.if-next-eq0.false) ∙ c.loop-next.invariant.same;
}
