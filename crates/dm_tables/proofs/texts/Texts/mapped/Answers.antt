use Rattle.std.proofs.Common.{◌∙◌}
use Rattle.dm_tables.proofs.Orders.{paths}
use Rattle.dm_tables.specs.Rows.{changed}
use Rattle.dm_tables.proofs.Copies.{mapped_whole, mapped_on, poured_end}
use Rattle.std.proofs.Common.{ap}
use Rattle.dm_tables.proofs.texts.Texts.mapped.Goals as goal

pub loop-key-init : goal.loop-key-init
loop-key-init g c =
    mapped_whole paths (λ _. g.F.Change.changed c.args.change.now) _ _ _ c.empty-changed.ensures (c.into_iter-key-iterator.ensures.into_iter_gives ∙ c.into_entries-key-items.ensures)

pub loop-key-preserved : goal.loop-key-preserved
loop-key-preserved g c =
    mapped_on paths (λ _. g.F.Change.changed c.args.change.now) c.loop-key.key-iterator c.next.new.self c.loop-key.changed c.insert.new.self c.in-Some.key c.in-Some.row c.change-row.result _ c.in-Some.ensures.steps c.in_ok-insert.ensures.ok c.change-row.ensures c.loop-key.invariant

pub returns : goal.returns
returns g c =
    poured_end (changed (λ _. g.F.Change.changed c.args.change.now) c.loop-key.key-iterator) c.loop-key.changed _
    (ap (changed (λ _. g.F.Change.changed c.args.change.now)) c.in-None.ensures.steps.0) c.loop-key.invariant
