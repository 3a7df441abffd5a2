use Rattle.std.proofs.Common.{ap, sym, ◌∙◌, slice_get}
use Rattle.dm_tables.specs.Rows.{row_after}
use Rattle.dm_tables.proofs.Orders.{numbers}
use Rattle.dm_tables.proofs.Views.{after-view, start_after}
use Rattle.dm_tables.proofs.numbers.Numbers.first_after.Goals as goal
use Rattle.dm_tables.proofs.numbers.Numbers.first_after.Goals.{in-Some, in-None}

pub returns-in-Some-next : goal.returns-in-Some-next
returns-in-Some-next g c =
    sym (
    ap (λ m. row_after m c.args.key) (sym c.self.view_is)
    ∙ after-view numbers c.self.inside.rows.entries c.range.ensures.ordered c.args.key c.match-key.start
    (elim c.match-key.branch [
      | in-Some w ↦ w.start-is ∙ ap start_after (sym w.in-Some.is)
      | in-None w ↦ w.start-is ∙ ap start_after (sym w.in-None.is)
    ])
    c.range.result (c.range.ensures.between tt)
    ∙ ap (λ xs. slice_get xs 0) c.in-Some-next.ensures.steps)

pub returns-in-None-next : goal.returns-in-None-next
returns-in-None-next g c =
    sym (
    ap (λ m. row_after m c.args.key) (sym c.self.view_is)
    ∙ after-view numbers c.self.inside.rows.entries c.range.ensures.ordered c.args.key c.match-key.start
    (elim c.match-key.branch [
      | in-Some w ↦ w.start-is ∙ ap start_after (sym w.in-Some.is)
      | in-None w ↦ w.start-is ∙ ap start_after (sym w.in-None.is)
    ])
    c.range.result (c.range.ensures.between tt)
    ∙ ap (λ xs. slice_get xs 0) c.in-None-next.ensures.steps.0)
