use Rattle.dm_runs.proofs.FoundThere.{chunks_follow, copies_open, mounted_whole, numbers_new, reserved_asked}
use Rattle.dm_runs.proofs.RunsEnd.{run_ends}
use Rattle.dm_runs.proofs.laws.found_there.Goals as goal

pub returns-clause-reserved : goal.returns-clause-reserved
returns-clause-reserved c j entries k opened apart run = reserved_asked k (run_ends j entries k opened apart run)

pub returns-clause-mounted : goal.returns-clause-mounted
returns-clause-mounted c j entries k opened apart run = mounted_whole k (run_ends j entries k opened apart run)

pub returns-clause-chunks : goal.returns-clause-chunks
returns-clause-chunks c j entries k opened apart run = chunks_follow k (run_ends j entries k opened apart run)

pub returns-clause-copies : goal.returns-clause-copies
returns-clause-copies c j entries k opened apart run = copies_open k (run_ends j entries k opened apart run)

pub returns-clause-numbers : goal.returns-clause-numbers
returns-clause-numbers c j entries k opened apart run = numbers_new k (run_ends j entries k opened apart run)
