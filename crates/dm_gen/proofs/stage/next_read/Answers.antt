use Rattle.std.proofs.Common.{◌∙◌, arith}
use Rattle.dm_gen.proofs.Sessions.{a_third, skip_read}
use Rattle.dm_gen.proofs.stage.next_read.Goals as goal

pub loop-next-preserved : goal.loop-next-preserved
loop-next-preserved c = record {
  within = omega arith;
  same = skip_read c.args.files c.loop-next.next c.loop-next-test.true (a_third c.loop-next.next c.if-next-ne0.false) ∙ c.loop-next.invariant.same;
}
