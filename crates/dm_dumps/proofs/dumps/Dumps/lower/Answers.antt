use Rattle.std.proofs.Common.{ap, ◌∙◌, sym, ◌%◌, ◌^◌}
use Rattle.dm_durable.specs.Daemon.{size_of_dumps}
use Rattle.dm_durable.proofs.Sizes.{size_aged}
use Rattle.dm_dumps.proofs.dumps.Dumps.lower.Goals as goal

pub invariant_of-self : goal.invariant_of-self
invariant_of-self c = record {
  sized = c.args.self.now.sized ∙ ap (λ n. n % 2 ^ 64) (sym (size_aged c.args.age c.args.self.now.rows.rows)) ∙ ap (λ m. size_of_dumps m % 2 ^ 64) (sym c.change_all.ensures.rows);
}
