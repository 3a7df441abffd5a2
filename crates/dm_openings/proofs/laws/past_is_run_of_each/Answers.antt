use Rattle.dm_history.proofs.PastsRun.{past_goes}
use Rattle.dm_openings.proofs.OpeningsBegin.{begun_in, legal_in, run_in}
use Rattle.dm_openings.proofs.laws.past_is_run_of_each.Goals as goal

pub returns-clause-run : goal.returns-clause-run
returns-clause-run c l j xs is rises legal = run_in l j xs is rises legal

pub returns-clause-goes : goal.returns-clause-goes
returns-clause-goes c l j xs is rises legal = past_goes (begun_in l j is) xs is.opened rises (legal_in l j is xs legal)
