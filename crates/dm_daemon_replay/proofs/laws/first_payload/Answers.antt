use Rattle.dm_daemon_replay.proofs.Logs.{log_of_one}
use Rattle.dm_daemon_replay.proofs.laws.first_payload.Goals as goal

pub returns : goal.returns
returns c = log_of_one
