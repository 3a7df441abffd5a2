use Rattle.std.proofs.Common.{◌≤◌, sym, subst, arith}
use Rattle.dm_catalogue.specs.Sums.{IsWhole, Summed}
use Rattle.dm_places.specs.Queues.{Queued}
use Rattle.dm_tables.specs.Rows.{EachRow}
use Rattle.dm_catalogue.proofs.catalogue.Catalogue.reserve.Goals as goal

pub invariant_of-self : goal.invariant_of-self
invariant_of-self c = record {
  whole = subst (λ m. EachRow m (λ b r. IsWhole r)) (sym c.reserve.ensures.rows) c.args.self.now.whole;
  summed = subst (Summed c.args.self.now.homes.rows) (sym c.reserve.ensures.rows) c.args.self.now.summed;
  queued = subst (Queued c.args.self.now.queues.rows.rows) (sym c.reserve.ensures.rows) c.args.self.now.queued;
  room = c.in-Ok.ensures.room;
}

pub invariant_of-self-in-Err-1 : goal.invariant_of-self-in-Err-1
invariant_of-self-in-Err-1 c = record {
  whole = subst (λ m. EachRow m (λ b r. IsWhole r)) (sym c.reserve.ensures.rows) c.args.self.now.whole;
  summed = subst (Summed c.args.self.now.homes.rows) (sym c.reserve.ensures.rows) c.args.self.now.summed;
  queued = subst (Queued c.args.self.now.queues.rows.rows) (sym c.reserve.ensures.rows) c.args.self.now.queued;
  room = let old = c.args.self.now.room in let kept = c.reserve.ensures.kept in omega arith;
}
