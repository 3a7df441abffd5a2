use Rattle.dm_daemon_replay.proofs.Payloads.{begins, begins_not, begins_unread, told_damaged}
use Rattle.dm_daemon_replay.proofs.replayed.Replayed.begin.Goals as goal

pub returns-in-Some-clause-begun : goal.returns-in-Some-clause-begun
returns-in-Some-clause-begun c = begins c.args.payload.now c.in-Ok.payload c.in-Some.head _ c.in-Ok.ensures c.in-Some.ensures c.of_head.ensures

pub returns-in-None-clause-damaged : goal.returns-in-None-clause-damaged
returns-in-None-clause-damaged c = λ is. begins_not c.args.payload.now c.in-Ok.payload c.in-Ok.ensures c.in-None.ensures

pub returns-in-Err-clause-damaged : goal.returns-in-Err-clause-damaged
returns-in-Err-clause-damaged c = λ is. begins_unread c.args.payload.now c.in-Err.error c.in-Err.ensures (told_damaged c.in-Err.error is)
