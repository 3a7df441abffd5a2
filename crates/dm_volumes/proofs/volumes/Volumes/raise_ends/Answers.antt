use Rattle.std.proofs.Common.{◌∙◌, arith}
use Rattle.dm_volumes.proofs.Loops.{raised_on, raised_end, read_again}
use Rattle.dm_volumes.proofs.volumes.Volumes.raise_ends.Goals as goal

pub loop-chunk-preserved : goal.loop-chunk-preserved
loop-chunk-preserved c = (
  raised_on c.args.chunks.now c.loop-chunk.chunk-index _ c.loop-chunk.self.rows.rows c.raise_end.new.self.rows.rows _ c.loop-chunk-test.true
      (read_again c.args.chunks.now c.loop-chunk.chunk-index _ c.loop-chunk-test.true) c.raise_end.ensures.rows c.loop-chunk.invariant.0,
  c.raise_end.ensures.spare ∙ c.loop-chunk.invariant.1,
)

pub returns-clause-rows : goal.returns-clause-rows
returns-clause-rows c =
    raised_end c.args.chunks.now c.loop-chunk.chunk-index c.loop-chunk.self.rows.rows _ (let t = c.loop-chunk-test.false in omega arith) c.loop-chunk.invariant.0
