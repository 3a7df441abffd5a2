use Rattle.std.proofs.Common.{ap, sym, ◌∙◌}
use Rattle.std.specs.FinMap.{get, remove}
use Rattle.dm_tables.proofs.Orders.{paths}
use Rattle.dm_tables.proofs.Views.{get-view, remove-view}
use Rattle.dm_tables.proofs.texts.Texts.remove.Goals as goal

pub returns-clause-value : goal.returns-clause-value
returns-clause-value g c =
    c.remove.ensures.value
    ∙ sym (get-view paths c.self.inside.rows.entries c.args.key.now)
    ∙ ap (λ m. get m c.args.key.now) c.self.view_is

pub returns-clause-removed : goal.returns-clause-removed
returns-clause-removed g c =
    remove-view paths c.self.inside.rows.entries c.remove.new.self.entries c.args.key.now c.remove.ensures.updates.0
    ∙ ap (λ m. remove m c.args.key.now) c.self.view_is
