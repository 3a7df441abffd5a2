use Rattle.std.proofs.Common.{ap, ◌∙◌, sym, ◌^◌, ◌%◌}
use Rattle.dm_inodes.specs.Counts.{with_one_fewer}
use Rattle.dm_durable.specs.Daemon.{size_of_files}
use Rattle.dm_inodes.proofs.Namings.{counted_ended, size_ended, counted_both}
use Rattle.dm_inodes.proofs.inodes.Inodes.end_put_of.Goals as goal

pub invariant_of-self : goal.invariant_of-self
invariant_of-self c = record {
  counted = counted_both (c.lower.ensures.rows ∙ ap (with_one_fewer c.args.self.now.counts.rows) c.let_go-named.ensures) c.change-there.ensures.rows
      (counted_ended c.args.dual c.args.self.now.counts.rows c.args.self.now.rows.rows c.args.key c.args.self.now.counted);
  sized = c.args.self.now.sized ∙ ap (λ n. n % 2 ^ 64) (sym (size_ended c.args.dual c.args.self.now.rows.rows c.args.key)) ∙ ap (λ m. size_of_files m % 2 ^ 64) (sym c.change-there.ensures.rows);
}
