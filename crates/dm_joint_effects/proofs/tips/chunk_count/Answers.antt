use Rattle.std.proofs.Common.{◌∙◌}
use Rattle.dm_joint_effects.proofs.Zones.{count_of_none}
use Rattle.dm_joint_effects.proofs.tips.chunk_count.Goals as goal

pub returns-then-chunk-eq0 : goal.returns-then-chunk-eq0
returns-then-chunk-eq0 c = c.min.ensures ∙ count_of_none _ _ c.if-chunk-eq0.true
