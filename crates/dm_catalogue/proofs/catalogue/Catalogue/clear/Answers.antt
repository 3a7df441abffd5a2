use Rattle.std.proofs.Common.{[], refl, sym, ◌∙◌}
use Rattle.dm_catalogue.proofs.Queueing.{places_cleared, places_same, queued_cleared}
use Rattle.dm_catalogue.proofs.catalogue.Catalogue.clear.Goals as goal

pub returns-then-has_chunk_on-clause-places : goal.returns-then-has_chunk_on-clause-places
returns-then-has_chunk_on-clause-places c = places_same c.args.self.now.queues.rows.rows c.args.self.now.queues.rows.rows [] refl

pub invariant_of-self : goal.invariant_of-self
invariant_of-self c = record {
  whole = c.args.self.now.whole;
  summed = c.args.self.now.summed;
  queued =
      queued_cleared c.args.self.now.rows.rows c.args.self.now.whole c.args.vsn.0 c.args.self.now.queues.rows.rows c.args.self.now.queued c.clear.new.self.rows.rows
      (sym c.if-has_chunk_on.ensures) c.clear.ensures;
  room = c.args.self.now.room;
}

pub returns-clause-places : goal.returns-clause-places
returns-clause-places c = places_cleared c.args.self.now.queues.rows.rows c.clear.new.self.rows.rows c.args.vsn.0 c.clear.ensures
