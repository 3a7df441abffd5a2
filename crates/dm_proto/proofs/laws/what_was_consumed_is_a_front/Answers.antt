use Rattle.dm_proto.proofs.Hearing.{hears_from}
use Rattle.dm_proto.proofs.laws.what_was_consumed_is_a_front.Goals as goal

pub returns : goal.returns
returns c input left items more ending consumed heard = hears_from input items left more ending consumed heard
