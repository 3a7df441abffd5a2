use Rattle.std.proofs.Common.{arith}
use Rattle.dm_zone.proofs.RoomLemmas.{most_above}
use Rattle.dm_zone.proofs.rooms.most_bytes.Goals as goal

pub returns-then-rest-header : goal.returns-then-rest-header
returns-then-rest-header c = most_above c.args.header c.args.left c.args.chunk c.saturating_add-step.result c.saturating_add-step.ensures (omega arith) c.if-rest-header.true
