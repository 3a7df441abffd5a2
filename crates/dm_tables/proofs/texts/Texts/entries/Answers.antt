use Rattle.std.proofs.Common.{◌≡◌, ◌<◌, ◌^◌, All, Some, ap, sym, subst, ◌∙◌}
use Rattle.std.specs.FinMap.{get, entries, len}
use Rattle.dm_tables.proofs.Orders.{paths}
use Rattle.dm_tables.proofs.Views.{entries-view, found-view, len-view}
use Rattle.dm_tables.proofs.texts.Texts.entries.Goals as goal

pub returns-clause-rest : goal.returns-clause-rest
returns-clause-rest g c =
    c.iter.ensures.rest
    ∙ sym (entries-view paths c.self.inside.rows.entries c.iter.ensures.ordered)
    ∙ ap entries c.self.view_is

pub returns-clause-found : goal.returns-clause-found
returns-clause-found g c =
    subst (λ m. All (λ e. get m e.0 ≡ Some e.1) (entries m)) c.self.view_is
    (found-view paths c.self.inside.rows.entries c.iter.ensures.ordered c.iter.ensures.found)

pub returns-clause-small : goal.returns-clause-small
returns-clause-small g c =
    let same = sym (len-view paths c.self.inside.rows.entries c.iter.ensures.ordered) ∙ ap len c.self.view_is in
    subst (λ n. n < 2 ^ 63) same c.iter.ensures.fits
