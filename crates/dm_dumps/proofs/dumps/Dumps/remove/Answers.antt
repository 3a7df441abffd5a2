use Rattle.dm_durable.specs.Dumps.{dump_size}
use Rattle.dm_dumps.proofs.Sizes.{size_out}
use Rattle.dm_dumps.proofs.dumps.Dumps.remove.Goals as goal

pub invariant_of-self : goal.invariant_of-self
invariant_of-self c = record {
  sized =
      size_out dump_size c.args.self.now.size c.size_at-before.result c.args.self.now.rows.rows c.take-old.new.self.rows c.args.name.now
      c.size_at-before.type_inv c.args.self.now.sized c.size_at-before.ensures c.take-old.ensures.rows;
}
