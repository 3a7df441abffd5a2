use Rattle.std.proofs.Common.{◌≡◌, ◌++◌, map, take, drop}
use Rattle.dm_durable.specs.Entries.{copy_stored_by}
use Rattle.dm_daemon_tables.proofs.entries.mark.Given as goal

abbrev pub invariant-loop-copy : goal.invariant-loop-copy
invariant-loop-copy l = l.copies ≡ map (copy_stored_by l.group.0) (take l.copy-index l.fn.copies) ++ drop l.copy-index l.fn.copies
