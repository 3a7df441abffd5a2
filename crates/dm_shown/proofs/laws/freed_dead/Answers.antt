use Rattle.dm_shown.proofs.VolumesDead.{landed_dead, reused_dead}
use Rattle.dm_shown.proofs.laws.freed_dead.Goals as goal

pub returns-clause-reused : goal.returns-clause-reused
returns-clause-reused c j kept = reused_dead j kept

pub returns-clause-landed : goal.returns-clause-landed
returns-clause-landed c j kept = landed_dead j kept
