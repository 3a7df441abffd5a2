use Rattle.dm_durable_steps.proofs.Ends.{raised_more, raised_all}
use Rattle.dm_durable_steps.proofs.group.raise_ends.Goals as goal

pub loop-chunk-preserved : goal.loop-chunk-preserved
loop-chunk-preserved c = raised_more _ _ _ c.loop-chunk.volumes _ _ c.loop-chunk-test.true c.in_ok-edit.ensures c.loop-chunk.invariant

pub returns : goal.returns
returns c = raised_all _ _ _ _ c.loop-chunk-test.false c.loop-chunk.invariant
