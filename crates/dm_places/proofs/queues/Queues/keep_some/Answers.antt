use Rattle.dm_places.proofs.OfVolumes.{keeps_on, read_again}
use Rattle.dm_places.proofs.queues.Queues.keep_some.Goals as goal

pub loop-at-preserved : goal.loop-at-preserved
loop-at-preserved c =
    keeps_on c.args.chunks.now c.loop-at.at _ c.loop-at-test.true (read_again c.args.chunks.now c.loop-at.at _ c.loop-at-test.true)
    c.args.self.now.rows.rows c.loop-at.self.rows.rows c.keep.new.self.rows.rows c.loop-at.invariant c.in-Ok.ensures.ok
