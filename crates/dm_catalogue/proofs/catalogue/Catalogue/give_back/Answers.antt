use Rattle.std.proofs.Common.{◌≤◌, arith}
use Rattle.dm_catalogue.proofs.catalogue.Catalogue.give_back.Goals as goal

pub invariant_of-self : goal.invariant_of-self
invariant_of-self c = record {
  whole = c.args.self.now.whole;
  summed = c.args.self.now.summed;
  queued = c.args.self.now.queued;
  room = let old = c.args.self.now.room in let fewer = c.saturating_sub-self.ensures in omega arith;
}
