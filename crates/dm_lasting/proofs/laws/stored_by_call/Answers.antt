use Rattle.dm_lasting.proofs.EventsStore.{stays_unstored}
use Rattle.dm_lasting.proofs.StoredBy.{unstored_after}
use Rattle.dm_lasting.proofs.laws.stored_by_call.Goals as goal

pub returns-clause-steps : goal.returns-clause-steps
returns-clause-steps c t s b g other each = unstored_after b g t each s other

pub returns-clause-events : goal.returns-clause-events
returns-clause-events c j k w e a b g un other is = stays_unstored b g j w un e k a other is
