use Rattle.dm_history.proofs.EventsDecided.{event_decided, event_made}
use Rattle.dm_history.proofs.laws.names_decided.Goals as goal

pub returns-clause-alike : goal.returns-clause-alike
returns-clause-alike c j k after other w e a b x keys goes is_j is_k all alike =
    event_decided j k after other w e a b x keys goes is_j is_k all alike

pub returns-clause-made : goal.returns-clause-made
returns-clause-made c j k after other w e a b x keys is_j is_k all made = event_made j k after other w e a b x keys is_j is_k all made
