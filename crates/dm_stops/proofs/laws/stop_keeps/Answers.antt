use Rattle.dm_stops.proofs.StopKept.{stopped_closed, stopped_keeps}
use Rattle.dm_stops.proofs.laws.stop_keeps.Goals as goal

pub returns-clause-kept : goal.returns-clause-kept
returns-clause-kept c j k w a kept is = stopped_keeps j k w a kept is

pub returns-clause-closed : goal.returns-clause-closed
returns-clause-closed c j k w a is = stopped_closed j k w a is
