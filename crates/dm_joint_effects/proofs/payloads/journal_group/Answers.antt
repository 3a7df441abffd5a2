use Rattle.dm_tables.proofs.Orders.{numbers}
use Rattle.dm_joint_effects.proofs.Anew.{put_back, none_there}
use Rattle.dm_joint_effects.proofs.payloads.journal_group.Goals as goal

pub returns : goal.returns
returns c = put_back numbers _ _ _ _ _ _ _ c.in-Some.ensures.value c.in-Some.ensures.removed c.in_ok-journal_side.ensures c.in_ok-insert.ensures.ok

pub returns-in_default : goal.returns-in_default
returns-in_default c = none_there numbers _ _ _ _ c.in_default.ensures.value c.in_default.ensures.removed
