use Rattle.std.proofs.Common.{ap, sym, ◌∙◌}
use Rattle.std.specs.FinMap.{get}
use Rattle.dm_tables.proofs.Orders.{paths}
use Rattle.dm_tables.proofs.Views.{get-view}
use Rattle.dm_tables.proofs.texts.Texts.get.Goals as goal

pub returns : goal.returns
returns g c =
    c.get.ensures.value
    ∙ sym (get-view paths c.self.inside.rows.entries c.args.key.now)
    ∙ ap (λ m. get m c.args.key.now) c.self.view_is
