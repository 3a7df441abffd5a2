use Rattle.dm_effects.proofs.DaemonEvents.{event_keeps}
use Rattle.dm_shown.proofs.BitfilesThere.{young_there}
use Rattle.dm_shown.proofs.laws.young_kept.Goals as goal

pub returns-clause-there : goal.returns-clause-there
returns-clause-there c j kept = young_there j kept

pub returns-clause-after : goal.returns-clause-after
returns-clause-after c j k w e a kept of is = young_there k (event_keeps j kept w k a e of is)
