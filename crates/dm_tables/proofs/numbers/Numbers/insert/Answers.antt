use Rattle.std.proofs.Common.{ap, sym, ◌∙◌}
use Rattle.std.specs.FinMap.{get, insert}
use Rattle.dm_tables.proofs.Orders.{numbers}
use Rattle.dm_tables.proofs.Views.{get-view, insert-view, on_err}
use Rattle.dm_tables.proofs.numbers.Numbers.insert.Goals as goal

pub returns-in_err-insert-clause-absent : goal.returns-in_err-insert-clause-absent
returns-in_err-insert-clause-absent g c =
    on_err _ (
    ap (λ m. get m c.args.key) (sym c.self.view_is)
    ∙ get-view numbers c.self.inside.rows.entries c.args.key
    ∙ c.in_err-insert.ensures.absent)

pub returns-clause-ok : goal.returns-clause-ok
returns-clause-ok g c =
    insert-view numbers c.self.inside.rows.entries c.insert.new.self.entries c.args.key c.args.value c.in_ok-insert.ensures.updates.0
    ∙ ap (λ m. insert m c.args.key c.args.value) c.self.view_is
