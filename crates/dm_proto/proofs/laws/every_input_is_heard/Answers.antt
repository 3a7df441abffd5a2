use Rattle.dm_proto.proofs.Hearing.{hears_some}
use Rattle.dm_proto.proofs.laws.every_input_is_heard.Goals as goal

pub returns : goal.returns
returns c input = let h = hears_some input in (h.items, h.ending, h.hears)
