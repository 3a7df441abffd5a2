use Rattle.dm_runs.proofs.PastStays.{listed_right}
use Rattle.dm_runs.proofs.laws.missing_kept.Goals as goal

pub returns : goal.returns
returns c = record { listed = λ j entries k opened apart run. listed_right j entries k opened apart run }
