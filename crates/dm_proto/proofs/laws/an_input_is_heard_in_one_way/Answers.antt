use Rattle.dm_proto.proofs.Hearing.{hears_once}
use Rattle.dm_proto.proofs.laws.an_input_is_heard_in_one_way.Goals as goal

pub returns : goal.returns
returns c input first second ending last p q = hears_once input first second ending last p q
