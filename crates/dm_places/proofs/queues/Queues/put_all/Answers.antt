use Rattle.dm_places.proofs.OfVolumes.{place_next, puts_on, read_again}
use Rattle.dm_places.proofs.queues.Queues.put_all.Goals as goal

pub loop-chunk-preserved : goal.loop-chunk-preserved
loop-chunk-preserved c =
    puts_on c.args.chunks.now c.loop-chunk.chunk-index _ c.loop-chunk-test.true (read_again c.args.chunks.now c.loop-chunk.chunk-index _ c.loop-chunk-test.true)
    c.args.self.now.rows.rows c.loop-chunk.self.rows.rows c.put.new.self.rows.rows c.args.bfid.0 c.spot_of.result c.spot_of.ensures c.loop-chunk.invariant c.put.ensures

pub put-requires : goal.put-requires
put-requires c =
    place_next c.args.chunks.now c.loop-chunk.chunk-index _ c.loop-chunk-test.true (read_again c.args.chunks.now c.loop-chunk.chunk-index _ c.loop-chunk-test.true)
    c.args.self.now.rows.rows c.loop-chunk.self.rows.rows c.args.bfid.0 c.requires c.loop-chunk.invariant
