use Rattle.std.proofs.Common.{ap, sym, ◌∙◌}
use Rattle.std.specs.FinMap.{get}
use Rattle.dm_tables.proofs.Orders.{numbers}
use Rattle.dm_tables.proofs.Views.{get-view}
use Rattle.dm_tables.proofs.numbers.Numbers.get.Goals as goal

pub returns : goal.returns
returns g c =
    c.get.ensures.value
    ∙ sym (get-view numbers c.self.inside.rows.entries c.args.key)
    ∙ ap (λ m. get m c.args.key) c.self.view_is
