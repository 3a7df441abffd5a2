use Rattle.dm_proto.proofs.Sessions.{session_from}
use Rattle.dm_proto.proofs.laws.what_was_consumed_is_a_sessions_front.Goals as goal

pub returns : goal.returns
returns c input left items more closing goes consumed heard = session_from input left items more closing goes consumed heard
