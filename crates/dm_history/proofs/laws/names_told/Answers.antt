use Rattle.dm_history.proofs.EventsTold.{event_stays}
use Rattle.dm_history.proofs.laws.names_told.Goals as goal

pub returns : goal.returns
returns c = record { stays = λ j k w e a x goes is away. event_stays j k w e a x goes is away }
