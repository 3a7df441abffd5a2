use Rattle.std.proofs.Common.{◌∙◌, ap}
use Rattle.dm_tables.proofs.Orders.{numbers}
use Rattle.dm_tables.specs.Rows.{changed}
use Rattle.dm_tables.proofs.Copies.{mapped_whole, mapped_on, poured_end}
use Rattle.dm_tables.proofs.numbers.Numbers.edited.Goals as goal

pub loop-key-init : goal.loop-key-init
loop-key-init g c =
    mapped_whole numbers (g.E.TryEditAt.edited c.args.edit.now) _ _ _ c.empty-edited.ensures (c.into_iter-key-iterator.ensures.into_iter_gives ∙ c.into_entries-key-items.ensures)

pub loop-key-preserved : goal.loop-key-preserved
loop-key-preserved g c =
    mapped_on numbers (g.E.TryEditAt.edited c.args.edit.now) c.loop-key.key-iterator c.next.new.self c.loop-key.edited c.insert.new.self c.in-Some.key c.in-Some.row c.try_edit_at.new.row _ c.in-Some.ensures.steps c.in_ok-insert.ensures.ok c.in_ok-try_edit_at.ensures c.loop-key.invariant

pub returns : goal.returns
returns g c =
    poured_end (changed (g.E.TryEditAt.edited c.args.edit.now) c.loop-key.key-iterator) c.loop-key.edited _
    (ap (changed (g.E.TryEditAt.edited c.args.edit.now)) c.in-None.ensures.steps.0) c.loop-key.invariant
