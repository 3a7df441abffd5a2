-- What the program keeps, seen as the daemon's durable tables.
use Rattle.dm_daemon_tables.specs.declared.tables.Tables.{Tables}
use Rattle.dm_durable.specs.declared.daemon.DaemonTables.{DaemonTables}

abbrev pub state_of : Tables → DaemonTables
state_of m = record {
  site = m.site;
  first = m.first;
  begun_age = m.begun_age;
  time = m.time;
  change = m.change;
  counter = m.counter;
  age = m.age;
  names = m.names.rows;
  inodes = m.inodes.rows.rows;
  entries = m.entries.rows;
  dumps = m.dumps.rows.rows;
}
