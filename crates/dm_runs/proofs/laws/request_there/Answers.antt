use Rattle.dm_runs.proofs.RunsEnd.{run_ends}
use Rattle.dm_shown.proofs.BitfilesThere.{request_there as there}
use Rattle.dm_runs.proofs.laws.request_there.Goals as goal

pub returns : goal.returns
returns c = record { there = λ j entries k opened apart run. there k (run_ends j entries k opened apart run) }
