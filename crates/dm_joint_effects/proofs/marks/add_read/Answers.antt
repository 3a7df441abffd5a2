use Rattle.std.proofs.Common.{ap}
use Rattle.std.specs.FinMap as map
use Rattle.dm_tables.proofs.Orders.{numbers}
use Rattle.dm_model.specs.DaemonCalls.{reads_or}
use Rattle.dm_joint_effects.proofs.Anew.{changed_anew}
use Rattle.dm_joint_effects.proofs.marks.add_read.Goals as goal

pub returns : goal.returns
returns c =
    ap (λ t. record c.args.recall.now { reads = t }) (
    changed_anew numbers _ _ _ _ _ reads_or (λ r. map.insert r c.args.offset c.args.bytes.now) _ _ _ c.from-key.ensures c.remove.ensures.value c.remove.ensures.removed
    c.reads_or-reads.ensures c.in_ok-reads.ensures c.in_ok-insert.ensures.ok)
