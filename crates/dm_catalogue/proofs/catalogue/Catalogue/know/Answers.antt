use Rattle.std.proofs.Common.{refl}
use Rattle.dm_places.proofs.OfVolumes.{keeps_nothing}
use Rattle.dm_catalogue.proofs.Queueing.{queued_either}
use Rattle.dm_catalogue.proofs.Summing.{summed_same}
use Rattle.dm_catalogue.proofs.catalogue.Catalogue.know.Goals as goal

pub invariant_of-self : goal.invariant_of-self
invariant_of-self c = record {
  whole = c.args.self.now.whole;
  summed = summed_same c.args.self.now.homes.rows c.know_all.new.homes.rows c.args.self.now.rows.rows c.know_all.ensures.same c.args.self.now.summed;
  queued =
      queued_either c.keep_all.result c.args.self.now.queues.rows.rows c.keep_all.new.self.rows.rows c.args.self.now.rows.rows c.args.chunks.now c.keep_all.ensures.ok c.keep_all.ensures.err
      c.args.self.now.queued;
  room = c.args.self.now.room;
}

pub invariant_of-self-in-Err-1 : goal.invariant_of-self-in-Err-1
invariant_of-self-in-Err-1 c = record {
  whole = c.args.self.now.whole;
  summed = summed_same c.args.self.now.homes.rows c.know_all.new.homes.rows c.args.self.now.rows.rows c.know_all.ensures.same c.args.self.now.summed;
  queued = c.args.self.now.queued;
  room = c.args.self.now.room;
}

pub returns-in-Err-clause-err : goal.returns-in-Err-clause-err
returns-in-Err-clause-err c = keeps_nothing c.args.self.now.queues.rows.rows
