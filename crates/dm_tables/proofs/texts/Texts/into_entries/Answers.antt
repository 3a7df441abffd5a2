use Rattle.std.proofs.Common.{ap, sym, ◌∙◌}
use Rattle.std.specs.FinMap.{entries}
use Rattle.dm_tables.proofs.Orders.{paths}
use Rattle.dm_tables.proofs.Views.{entries-view}
use Rattle.dm_tables.proofs.texts.Texts.into_entries.Goals as goal

pub returns : goal.returns
returns g c =
    c.into_iter.ensures.into_iter_gives.0
    ∙ sym (entries-view paths c.self.inside.rows.entries c.into_iter.ensures.into_iter_gives.5)
    ∙ ap entries c.self.view_is
