use Rattle.dm_runs.proofs.EventsKept.{run_shows}
use Rattle.dm_runs.proofs.SumsTell.{reads_tell}
use Rattle.dm_runs.proofs.laws.plain_kept.Goals as goal

pub returns : goal.returns
returns c = record { shown = λ j entries k opened apart run. run_shows j entries k opened (reads_tell j entries k opened apart run) run }
