use Rattle.dm_places.proofs.OfVolumes.{fewer_on, read_again}
use Rattle.dm_places.proofs.queues.Queues.give_back_all.Goals as goal

pub loop-chunk-preserved : goal.loop-chunk-preserved
loop-chunk-preserved c =
    fewer_on c.args.chunks.now c.loop-chunk.chunk-index _ c.loop-chunk-test.true (read_again c.args.chunks.now c.loop-chunk.chunk-index _ c.loop-chunk-test.true)
    c.args.self.now.rows.rows c.loop-chunk.self.rows.rows c.give_back.new.self.rows.rows c.loop-chunk.invariant c.give_back.ensures
