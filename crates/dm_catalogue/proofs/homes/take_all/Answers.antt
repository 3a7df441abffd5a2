use Rattle.std.proofs.Common.{arith}
use Rattle.dm_catalogue.proofs.Loops.{fewer_on, fewer_end, read_again}
use Rattle.dm_catalogue.proofs.homes.take_all.Goals as goal

pub loop-chunk-preserved : goal.loop-chunk-preserved
loop-chunk-preserved c =
    fewer_on c.args.chunks.now c.loop-chunk.chunk-index _ c.loop-chunk.homes.rows c.take.new.homes.rows _ c.loop-chunk-test.true
    (read_again c.args.chunks.now c.loop-chunk.chunk-index _ c.loop-chunk-test.true) c.take.ensures c.loop-chunk.invariant

pub returns : goal.returns
returns c = fewer_end c.args.chunks.now c.loop-chunk.chunk-index c.loop-chunk.homes.rows _ (let t = c.loop-chunk-test.false in omega arith) c.loop-chunk.invariant
