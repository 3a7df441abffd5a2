use Rattle.dm_once.proofs.AwayAlong.{event_away}
use Rattle.dm_once.proofs.laws.committed_alone.Goals as goal

pub returns : goal.returns
returns c = record { events = λ j k w e a g b kept away other is. event_away g b j w kept away e k a other is }
