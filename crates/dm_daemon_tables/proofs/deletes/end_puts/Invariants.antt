use Rattle.dm_daemon_tables.proofs.Restarting.{Ending}
use Rattle.dm_daemon_tables.proofs.deletes.end_puts.Given as goal

abbrev pub invariant-loop-at : goal.invariant-loop-at
invariant-loop-at l = Ending l.at l.time.0 l.fn.inodes.rows.rows l.inodes.rows.rows l.fn.entries.rows l.entries.rows
