use Rattle.std.proofs.Common.{ap, ◌∙◌, sym, refl, ◌^◌, ◌%◌}
use Rattle.dm_durable.specs.Daemon.{size_of_files}
use Rattle.dm_durable.specs.Inodes.{with_contents, as_offline}
use Rattle.dm_tables.specs.Rows.{adjust}
use Rattle.dm_inodes.proofs.Namings.{counted_released, size_released, counted_both}
use Rattle.dm_inodes.proofs.inodes.Inodes.release.Goals as goal

pub invariant_of-self : goal.invariant_of-self
invariant_of-self c = record {
  counted = counted_both refl (c.change-there.ensures.rows ∙ ap (λ k. adjust c.args.self.now.rows.rows k (with_contents as_offline)) c.from.ensures) (counted_released c.args.self.now.counts.rows c.args.self.now.rows.rows c.args.ino.0 c.args.self.now.counted);
  sized = c.args.self.now.sized ∙ ap (λ n. n % 2 ^ 64) (sym (size_released c.args.self.now.rows.rows c.args.ino.0)) ∙ ap (λ m. size_of_files m % 2 ^ 64) (sym (c.change-there.ensures.rows ∙ ap (λ k. adjust c.args.self.now.rows.rows k (with_contents as_offline)) c.from.ensures));
}
