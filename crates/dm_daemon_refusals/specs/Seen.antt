-- What the tables and the open requests are, seen as the model's daemon with no step in doubt; and errors that are refusals.
use Rattle.std.specs.Prelude.{◌≡◌, ℕ, ◌-◌, Option, None, Some}
use Rattle.dm_base.specs.declared.error.DaemonError.{DaemonError}
use Rattle.dm_daemon_acts.specs.Acts.{IsAnswer, report_of_error}
use Rattle.dm_daemon_tables.specs.declared.tables.Tables.{Tables}
use Rattle.dm_daemon_tables.specs.Tables.{state_of as tables_of}
use Rattle.dm_durable.specs.Inodes.{length_of}
use Rattle.dm_model.specs.declared.state.Daemon.{Daemon}
use Rattle.dm_model.specs.DaemonCalls.{daemon_refusal}
use Rattle.dm_model.specs.Files.{File}
use Rattle.dm_requests.specs.declared.requests.Requests.{Requests}

abbrev pub daemon_of : Tables → Requests → ℕ → Daemon
daemon_of tables requests cap = record {
  cap = cap;
  tables = tables_of tables;
  requests = requests.rows.rows;
  next_request = requests.next;
  doubt = None;
}

-- the error is an answer of the daemon, and neither a fault nor want of memory
abbrev pub IsRefusal : DaemonError → Type 0
IsRefusal e = report_of_error e ≡ IsAnswer (daemon_refusal e)

-- the length of a file, if it is there
abbrev pub length_if : Option File → Option ℕ
length_if None = None
length_if (Some f) = Some (length_of f.inode.contents)

-- the bytes that are left of all without those of a file, if it is there
abbrev pub without_file : ℕ → Option ℕ → ℕ
without_file size None = size
without_file size (Some len) = size - len
