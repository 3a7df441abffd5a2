use Rattle.dm_history.proofs.PastsRun.{past_goes, past_runs}
use Rattle.dm_history.proofs.laws.past_is_run.Goals as goal

pub returns-clause-run : goal.returns-clause-run
returns-clause-run c begun xs opened rises legal = past_runs begun xs opened rises legal

pub returns-clause-goes : goal.returns-clause-goes
returns-clause-goes c begun xs opened rises legal = past_goes begun xs opened rises legal
