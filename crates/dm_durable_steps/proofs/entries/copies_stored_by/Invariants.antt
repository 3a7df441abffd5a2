use Rattle.std.proofs.Common.{◌≡◌, ◌++◌, map, drop}
use Rattle.dm_durable.specs.Entries.{copy_stored_by}
use Rattle.dm_durable_steps.proofs.entries.copies_stored_by.Given as goal

abbrev pub invariant-loop-copy : goal.invariant-loop-copy
invariant-loop-copy l = map (copy_stored_by l.group.0) l.copies ≡ l.stored.items ++ map (copy_stored_by l.group.0) (drop l.copy-index l.copies)
