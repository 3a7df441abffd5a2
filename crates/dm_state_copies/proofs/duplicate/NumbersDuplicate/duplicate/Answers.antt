use Rattle.std.proofs.Common.{refl, ◌∙◌}
use Rattle.dm_tables.proofs.Orders.{numbers}
use Rattle.dm_tables.proofs.Copies.{poured_whole, poured_on, poured_end}
use Rattle.dm_state_copies.proofs.duplicate.NumbersDuplicate.duplicate.Goals as goal

pub loop-key-init : goal.loop-key-init
loop-key-init g c =
    poured_whole numbers _ _ _ c.empty-copy.ensures (c.into_iter-key-iterator.ensures.into_iter_gives ∙ c.entries-key-items.ensures.rest)

pub loop-key-preserved : goal.loop-key-preserved
loop-key-preserved g c =
    poured_on _ _ _ _ _ _ _ _ _ c.in-Some.ensures.steps c.in_ok-insert.ensures.ok refl c.in_ok-duplicate.ensures c.loop-key.invariant

pub returns : goal.returns
returns g c = poured_end _ _ _ c.in-None.ensures.steps.0 c.loop-key.invariant
