use Rattle.std.proofs.Common.{◌≡◌}
use Rattle.dm_dumps.proofs.Making.{Dumping}
use Rattle.dm_dumps.proofs.dump.KeptDump.of_files.Given as goal

abbrev pub invariant-loop-at : goal.invariant-loop-at
invariant-loop-at l =
    (l.dump.made ≡ l.fn.made) × (l.dump.least ≡ l.fn.age) × Dumping l.at l.dump.files l.names.rows l.inodes.rows.rows
