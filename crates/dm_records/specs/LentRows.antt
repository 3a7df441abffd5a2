-- Which row each lent one is. None is of version 1.
use Rattle.dm_durable.specs.declared.daemon_journal.DaemonRow.{DaemonRow}
use Rattle.dm_durable.specs.declared.daemon_journal.DaemonRow.TheVariants as row
use Rattle.dm_records.specs.declared.rows.LentRow.{LentRow}
use Rattle.dm_records.specs.declared.rows.LentRow.TheVariants as lent

abbrev pub row_of : LentRow → DaemonRow
row_of (lent.State time change counter site first begun_age age) = row.State time change counter site first begun_age age
row_of (lent.File path n inode) = row.File path.now n inode.now
row_of (lent.Bitfile b entry) = row.Bitfile b entry.now
row_of (lent.Dump name made least) = row.Dump name.now made least
row_of (lent.DumpFile name path file) = row.DumpFile name.now path.now file.now
