use Rattle.dm_runs.proofs.RunsEnd.{recalls_answered, run_online, run_recalled}
use Rattle.dm_runs.proofs.ReadsTold.{chunks_read_right}
use Rattle.dm_runs.proofs.laws.reads_right.Goals as goal

pub returns-clause-online : goal.returns-clause-online
returns-clause-online c j entries k opened apart run = run_online j entries k opened apart run

pub returns-clause-recalled : goal.returns-clause-recalled
returns-clause-recalled c j entries k opened apart run = run_recalled j entries k opened apart run

pub returns-clause-asked : goal.returns-clause-asked
returns-clause-asked c j entries k opened run = recalls_answered j entries k opened run

pub returns-clause-chunks : goal.returns-clause-chunks
returns-clause-chunks c j entries k opened run = chunks_read_right j entries k opened run
