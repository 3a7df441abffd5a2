use Rattle.std.proofs.Common.{ap, sym, ◌∙◌}
use Rattle.std.specs.FinMap.{entries}
use Rattle.dm_tables.proofs.Orders.{numbers}
use Rattle.dm_tables.proofs.Views.{entries-view}
use Rattle.dm_tables.proofs.numbers.Numbers.into_entries.Goals as goal

pub returns : goal.returns
returns g c =
    c.into_iter.ensures.into_iter_gives.0
    ∙ sym (entries-view numbers c.self.inside.rows.entries c.into_iter.ensures.into_iter_gives.5)
    ∙ ap entries c.self.view_is
