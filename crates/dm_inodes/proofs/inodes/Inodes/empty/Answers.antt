use Rattle.std.proofs.Common.{ap, ◌∙◌, sym, ◌%◌, ◌^◌}
use Rattle.dm_durable.specs.Daemon.{size_of_files}
use Rattle.dm_inodes.proofs.Namings.{size_empty, counted_over}
use Rattle.dm_inodes.proofs.inodes.Inodes.empty.Goals as goal

pub invariant_of-result : goal.invariant_of-result
invariant_of-result c = record {
  counted = counted_over _ _ (sym c.empty-2.ensures) (sym c.empty.ensures);
  sized = sym (ap (λ m. size_of_files m % 2 ^ 64) c.empty.ensures ∙ ap (λ n. n % 2 ^ 64) size_empty);
}
