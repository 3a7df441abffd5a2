use Rattle.dm_runs.proofs.RunsEnd.{run_ends}
use Rattle.dm_shown.proofs.VolumesDead.{landed_dead, reused_dead}
use Rattle.dm_runs.proofs.laws.freed_dead.Goals as goal

pub returns-clause-reused : goal.returns-clause-reused
returns-clause-reused c j entries k opened apart run = reused_dead k (run_ends j entries k opened apart run)

pub returns-clause-landed : goal.returns-clause-landed
returns-clause-landed c j entries k opened apart run = landed_dead k (run_ends j entries k opened apart run)
