-- What becomes of the step in doubt.
use Rattle.std.specs.Prelude.{Bool, true, false, Option, None, Some}
use Rattle.dm_durable.specs.Daemon.{after_record}
use Rattle.dm_durable.specs.declared.daemon.DaemonRecord.{DaemonRecord}
use Rattle.dm_durable.specs.declared.daemon.DaemonTables.{DaemonTables}

-- the tables after the step in doubt, if it landed
abbrev pub after_settling : Bool → Option DaemonRecord → DaemonTables → DaemonTables
after_settling landed None t = t
after_settling true (Some r) t = after_record t r
after_settling false (Some r) t = t

-- whether a step was in doubt and landed
abbrev pub was_done : Bool → Option DaemonRecord → Bool
was_done landed None = false
was_done landed (Some r) = landed
