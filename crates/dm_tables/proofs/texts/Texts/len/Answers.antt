use Rattle.std.proofs.Common.{ap, sym, ◌∙◌}
use Rattle.std.specs.FinMap.{len}
use Rattle.dm_tables.proofs.Orders.{paths}
use Rattle.dm_tables.proofs.Views.{len-view}
use Rattle.dm_tables.proofs.texts.Texts.len.Goals as goal

pub returns-clause-len : goal.returns-clause-len
returns-clause-len g c =
    c.len.ensures.len
    ∙ sym (len-view paths c.self.inside.rows.entries c.len.ensures.ordered)
    ∙ ap len c.self.view_is
