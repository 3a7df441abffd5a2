use Rattle.dm_catalogue.proofs.Queueing.{queued_fewer}
use Rattle.dm_catalogue.proofs.catalogue.Catalogue.forget.Goals as goal

pub invariant_of-self : goal.invariant_of-self
invariant_of-self c = record {
  whole = c.args.self.now.whole;
  summed = c.args.self.now.summed;
  queued = queued_fewer c.args.self.now.queues.rows.rows c.give_back_all.new.self.rows.rows c.args.self.now.rows.rows c.args.chunks.now c.give_back_all.ensures c.args.self.now.queued;
  room = c.args.self.now.room;
}
