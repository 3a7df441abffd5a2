use Rattle.std.proofs.Common.{ap}
use Rattle.dm_tables.proofs.Orders.{numbers}
use Rattle.dm_model.specs.Effects.{group_history_or}
use Rattle.dm_joint_effects.proofs.Anew.{changed_anew}
use Rattle.dm_joint_effects.proofs.past.edit_past.Goals as goal

pub returns : goal.returns
returns g c =
    ap (λ t. record c.args.history.now { groups = t }) (
    changed_anew numbers _ _ _ _ _ group_history_or (g.E.TryEdit.edited c.args.edit.now) _ _ _ c.from-key.ensures c.remove.ensures.value c.remove.ensures.removed
    c.group_history_or-done.ensures c.in_ok-try_edit.ensures c.in_ok-insert.ensures.ok)
