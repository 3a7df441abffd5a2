use Rattle.dm_proto.proofs.Sessions.{session_some}
use Rattle.dm_proto.proofs.laws.every_session_is_heard.Goals as goal

pub returns : goal.returns
returns c input = let h = session_some input in (h.items, h.closing, h.hears)
