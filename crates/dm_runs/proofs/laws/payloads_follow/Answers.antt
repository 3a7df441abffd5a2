use Rattle.dm_runs.proofs.PayloadsFollow.{calls_follow, doubts_follow, faults_follow, tables_may_be}
use Rattle.dm_runs.proofs.RunsEnd.{run_ends}
use Rattle.dm_runs.proofs.laws.payloads_follow.Goals as goal

pub returns-clause-calls : goal.returns-clause-calls
returns-clause-calls c j entries k opened apart run = calls_follow k (run_ends j entries k opened apart run)

pub returns-clause-faults : goal.returns-clause-faults
returns-clause-faults c j entries k opened apart run = faults_follow k (run_ends j entries k opened apart run)

pub returns-clause-doubts : goal.returns-clause-doubts
returns-clause-doubts c j entries k opened apart run = doubts_follow k (run_ends j entries k opened apart run)

pub returns-clause-tables : goal.returns-clause-tables
returns-clause-tables c j entries k opened apart run = tables_may_be k (run_ends j entries k opened apart run)
