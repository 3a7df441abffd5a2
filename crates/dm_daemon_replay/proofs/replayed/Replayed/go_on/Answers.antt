use Rattle.dm_daemon_replay.proofs.Payloads.{comes, comes_not, comes_unread, ok_then, told_damaged}
use Rattle.dm_daemon_replay.specs.Replay.{replayed_of}
use Rattle.dm_daemon_replay.proofs.replayed.Replayed.go_on.Goals as goal

pub returns-in-Ok-clause-next : goal.returns-in-Ok-clause-next
returns-in-Ok-clause-next c =
    ok_then c.follow.result (comes (replayed_of c.args.self.now) (replayed_of c.follow.new.self) c.args.payload.now c.in-Ok.payload c.in-Ok.ensures) c.follow.ensures.next

pub returns-in-Ok-clause-damaged : goal.returns-in-Ok-clause-damaged
returns-in-Ok-clause-damaged c = λ is. comes_not (replayed_of c.args.self.now) c.args.payload.now c.in-Ok.payload c.in-Ok.ensures (c.follow.ensures.damaged is)

pub returns-in-Err-clause-damaged : goal.returns-in-Err-clause-damaged
returns-in-Err-clause-damaged c = λ is. comes_unread (replayed_of c.args.self.now) c.args.payload.now c.in-Err.error c.in-Err.ensures (told_damaged c.in-Err.error is)
