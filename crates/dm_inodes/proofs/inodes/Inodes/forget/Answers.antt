use Rattle.std.proofs.Common.{sym, subst}
use Rattle.dm_inodes.specs.Counts.{Counted}
use Rattle.dm_inodes.proofs.Namings.{counted_forgotten, unnamed_count}
use Rattle.dm_inodes.proofs.inodes.Inodes.forget.Goals as goal

pub invariant_of-self : goal.invariant_of-self
invariant_of-self c = record {
  counted = subst (λ m. Counted m c.args.self.now.rows.rows) (sym c.take-count.ensures.rows)
      (counted_forgotten c.args.self.now.counts.rows c.args.self.now.rows.rows c.args.bfid.0 (unnamed_count c.args.self.now.counts.rows c.args.self.now.rows.rows c.args.bfid.0 (sym c.if-is_named.ensures) c.args.self.now.counted) c.args.self.now.counted);
  sized = c.args.self.now.sized;
}
