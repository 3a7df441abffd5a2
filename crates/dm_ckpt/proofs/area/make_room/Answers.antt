use Rattle.dm_ckpt.proofs.Writing.{writes_none}
use Rattle.dm_ckpt.proofs.area.make_room.Goals as goal

pub returns-then-len-n-clause-behind : goal.returns-then-len-n-clause-behind
returns-then-len-n-clause-behind g c = writes_none c.args.file (g.B.Bay.disk c.args.bay.now)
