use Rattle.dm_proto.proofs.Slots.{number_found}
use Rattle.dm_proto.proofs.argument.number_of.Goals as goal

pub returns : goal.returns
returns c = number_found _ _ c.number_of_digits.ensures
