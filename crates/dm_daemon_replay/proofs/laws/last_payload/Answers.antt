use Rattle.dm_daemon_replay.proofs.Logs.{log_of_more}
use Rattle.dm_daemon_replay.proofs.laws.last_payload.Goals as goal

pub returns : goal.returns
returns c = log_of_more
