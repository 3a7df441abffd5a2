use Rattle.dm_proto.proofs.Sessions.{session_once}
use Rattle.dm_proto.proofs.laws.a_session_is_heard_in_one_way.Goals as goal

pub returns : goal.returns
returns c input first second closing last p q = session_once input first second closing last p q
