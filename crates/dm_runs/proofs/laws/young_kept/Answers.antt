use Rattle.dm_runs.proofs.RunsEnd.{run_ends}
use Rattle.dm_shown.proofs.BitfilesThere.{young_there}
use Rattle.dm_runs.proofs.laws.young_kept.Goals as goal

pub returns : goal.returns
returns c = record { there = λ j entries k opened apart run. young_there k (run_ends j entries k opened apart run) }
