-- What a checkpoint writes is read as the state that it wrote.
use Rattle.std.proofs.Common.{inl, inr, refl}
use Rattle.std.specs.Prelude as prelude
use Rattle.dm_durable.specs.declared.daemon.DaemonTables.{DaemonTables}
use Rattle.dm_durable.specs.declared.daemon_journal.DaemonPayload.TheVariants.{Row}
use Rattle.dm_durable.specs.declared.daemon_journal.JournalVersion.TheVariants.{Second}
use Rattle.dm_durable.specs.DaemonJournal.{MayBeState, rows_of, Begins}

pub rows_begin : (t : DaemonTables) → MayBeState t → Begins (prelude.map Row (rows_of t)) (record { version = Second; tables = t })
rows_begin t may = inr (inl (record { version = refl; is = refl; may = may }))
