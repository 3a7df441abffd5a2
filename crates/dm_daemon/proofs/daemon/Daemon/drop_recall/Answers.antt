use Rattle.std.specs.FinMap as map
use Rattle.dm_daemon.proofs.Calling.{recall_dropped}
use Rattle.dm_daemon.specs.State.{state_of}
use Rattle.dm_daemon.proofs.daemon.Daemon.drop_recall.Goals as goal

pub returns-clause-does : goal.returns-clause-does
returns-clause-does c =
    let d = state_of c.args.self.now in
    recall_dropped d _ c.args.request.number (map.get d.requests c.args.request.number) c.requires
    (λ i. record { cap = d.cap; tables = d.tables; requests = c.end.ensures.rows i; next_request = c.end.ensures.next i; doubt = d.doubt })
