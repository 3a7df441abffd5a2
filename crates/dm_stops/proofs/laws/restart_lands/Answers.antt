use Rattle.std.proofs.Common.{arith}
use Rattle.std.specs.FinMap as map
use Rattle.dm_stops.proofs.Restarted.{dumps_restarted, files_restarted}
use Rattle.dm_stops.proofs.laws.restart_lands.Goals as goal

pub returns-clause-follows : goal.returns-clause-follows
returns-clause-follows c t making = record { time = omega arith; step = making }

pub returns-clause-files : goal.returns-clause-files
returns-clause-files c t contents cap time k on = files_restarted t contents cap map.empty map.empty time.0 k on

pub returns-clause-dumps : goal.returns-clause-dumps
returns-clause-dumps c t contents cap time k on dumps = dumps_restarted t contents cap map.empty map.empty time.0 k on dumps
