use Rattle.dm_runs.proofs.EventsKept.{run_kept}
use Rattle.dm_runs.proofs.SumsTell.{reads_tell}
use Rattle.dm_runs.proofs.laws.sums_tell.Goals as goal

pub returns-clause-reads : goal.returns-clause-reads
returns-clause-reads c j entries k opened apart run = reads_tell j entries k opened apart run

pub returns-clause-kept : goal.returns-clause-kept
returns-clause-kept c j entries k opened apart run = run_kept j entries k opened apart run
