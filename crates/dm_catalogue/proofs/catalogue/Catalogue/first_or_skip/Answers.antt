use Rattle.std.proofs.Common.{[], refl}
use Rattle.dm_places.specs.Queues.{spots_on}
use Rattle.dm_catalogue.proofs.Queueing.{merged_next, places_same, places_skipped, queued_skipped, skipped_one}
use Rattle.dm_catalogue.proofs.catalogue.Catalogue.first_or_skip.Goals as goal

pub returns-in-Some-clause-found : goal.returns-in-Some-clause-found
returns-in-Some-clause-found c =
    merged_next c.args.self.now.rows.rows c.args.self.now.whole c.args.vsn.0 c.args.self.now.queues.rows.rows c.args.self.now.queued c.args.spot c.in-Some.found c.requires c.in-Some.ensures.there

pub returns-in-Some-clause-places : goal.returns-in-Some-clause-places
returns-in-Some-clause-places c = places_same c.args.self.now.queues.rows.rows c.args.self.now.queues.rows.rows [] refl

pub invariant_of-self : goal.invariant_of-self
invariant_of-self c = record {
  whole = c.args.self.now.whole;
  summed = c.args.self.now.summed;
  queued =
      queued_skipped c.args.self.now.rows.rows c.args.self.now.whole c.args.vsn.0 c.args.self.now.queues.rows.rows c.args.self.now.queued c.drop_first.new.self.rows.rows c.args.spot c.requires
      c.in-None.ensures.gone c.drop_first.ensures;
  room = c.args.self.now.room;
}

pub returns-in-None-clause-skipped : goal.returns-in-None-clause-skipped
returns-in-None-clause-skipped c =
    skipped_one (spots_on c.args.self.now.queues.rows.rows c.args.vsn.0) (spots_on c.drop_first.new.self.rows.rows c.args.vsn.0) c.args.spot c.requires c.drop_first.ensures.len

pub returns-in-None-clause-places : goal.returns-in-None-clause-places
returns-in-None-clause-places c = places_skipped c.args.self.now.queues.rows.rows c.drop_first.new.self.rows.rows c.args.vsn.0 c.drop_first.ensures
