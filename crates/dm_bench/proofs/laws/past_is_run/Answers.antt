use Rattle.dm_bench.proofs.Pasts.{legal_loaded, runs}
use Rattle.dm_bench.proofs.laws.past_is_run.Goals as goal

pub returns-clause-legal : goal.returns-clause-legal
returns-clause-legal c s xs legal = legal_loaded s xs legal

pub returns-clause-run : goal.returns-clause-run
returns-clause-run c s j xs is rises legal = runs s j xs is rises legal
