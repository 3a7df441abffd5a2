use Rattle.std.proofs.Common.{ap, ◌∙◌}
use Rattle.std.specs.FinMap as map
use Rattle.dm_tables.proofs.Orders.{numbers}
use Rattle.dm_tables.proofs.Rows.{removed-here, insert-remove}
use Rattle.dm_inodes.proofs.inodes.Inodes.insert.Goals as goal

pub put-requires-clause-new : goal.put-requires-clause-new
put-requires-clause-new c = ap (λ m. map.get m c.args.row.value.0) (c.take-old.ensures.rows ∙ ap (λ z. map.remove c.args.self.now.rows.rows z.0) c.deref.ensures) ∙ removed-here numbers c.args.self.now.rows.rows c.args.row.value.0

pub returns : goal.returns
returns c = record {
  rows = c.put.ensures.rows ∙ ap (λ m. map.insert m c.args.row.value.0 c.args.row.value.1) (c.take-old.ensures.rows ∙ ap (λ z. map.remove c.args.self.now.rows.rows z.0) c.deref.ensures) ∙ insert-remove numbers c.args.self.now.rows.rows c.args.row.value.0 c.args.row.value.1;
}
