use Rattle.std.proofs.Common.{Err, ap}
use Rattle.dm_proto.proofs.Slots.{name_none}
use Rattle.dm_proto.proofs.argument.name_of.Goals as goal

pub returns-in-Err-Grammar-clause-found : goal.returns-in-Err-Grammar-clause-found
returns-in-Err-Grammar-clause-found c = name_none _ (c.in-Err-Grammar.ensures.grammar.0 (ap (λ e. Err e) c.in-Err-Grammar.field-0-is))
