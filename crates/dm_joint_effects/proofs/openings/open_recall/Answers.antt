use Rattle.dm_tables.proofs.Orders.{numbers}
use Rattle.dm_model.specs.Effects.{with_recall, worker_or}
use Rattle.dm_joint_effects.proofs.Anew.{changed_anew}
use Rattle.dm_joint_effects.proofs.openings.open_recall.Goals as goal

pub returns : goal.returns
returns c =
    changed_anew numbers _ _ _ _ _ worker_or (with_recall c.args.number c.args.recall) _ _ _ c.from-key.ensures c.remove.ensures.value c.remove.ensures.removed
    c.worker_or-state.ensures c.in_ok-worker_with_recall.ensures c.in_ok-insert.ensures.ok
