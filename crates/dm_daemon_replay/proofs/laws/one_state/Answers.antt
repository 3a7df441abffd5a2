use Rattle.dm_daemon_replay.proofs.Logs.{log_once}
use Rattle.dm_daemon_replay.proofs.laws.one_state.Goals as goal

pub returns : goal.returns
returns c = log_once
