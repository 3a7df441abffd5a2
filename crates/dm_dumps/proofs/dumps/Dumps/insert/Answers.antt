use Rattle.std.proofs.Common.{ap, ◌∙◌, sym, ◌%◌, ◌^◌}
use Rattle.dm_durable.specs.Dumps.{dump_size}
use Rattle.dm_dumps.proofs.Sizes.{size_put}
use Rattle.dm_dumps.proofs.dumps.Dumps.insert.Goals as goal

pub invariant_of-self : goal.invariant_of-self
invariant_of-self c = record {
  sized =
      size_put dump_size c.args.self.now.size c.size_at-before.result c.size.result c.args.self.now.rows.rows c.insert_reserved.new.self.rows c.bytes.result.now c.args.row.value.0 c.args.row.value.1
      c.size_at-before.type_inv c.args.self.now.sized c.size_at-before.ensures (c.size.ensures ∙ ap (λ z. dump_size z.1 % 2 ^ 64) c.deref-2.ensures)
      (sym (c.bytes.ensures.text ∙ ap (λ z. z.0) c.deref.ensures)) c.insert_reserved.ensures.rows;
}
