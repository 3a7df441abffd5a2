use Rattle.std.proofs.Common.{arith}
use Rattle.dm_catalogue.proofs.Loops.{more_on, more_end, read_again}
use Rattle.dm_catalogue.proofs.homes.add_all.Goals as goal

pub loop-chunk-preserved : goal.loop-chunk-preserved
loop-chunk-preserved c =
    more_on c.args.chunks.now c.loop-chunk.chunk-index _ c.loop-chunk.homes.rows c.add.new.homes.rows _ c.loop-chunk-test.true
    (read_again c.args.chunks.now c.loop-chunk.chunk-index _ c.loop-chunk-test.true) c.add.ensures c.loop-chunk.invariant

pub returns : goal.returns
returns c = more_end c.args.chunks.now c.loop-chunk.chunk-index c.loop-chunk.homes.rows _ (let t = c.loop-chunk-test.false in omega arith) c.loop-chunk.invariant
