-- What a step does to the open requests, made of the tables and the requests alone.
use Rattle.std.specs.Prelude.{ℕ, Bool, true, false, Option, None, Some}
use Rattle.dm_base.specs.declared.identifier.Ino.{Ino}
use Rattle.dm_durable.specs.declared.daemon.DaemonRecord.{DaemonRecord}
use Rattle.dm_durable.specs.declared.daemon.DaemonStep.{DaemonStep}
use Rattle.dm_durable.specs.declared.daemon.DaemonTables.{DaemonTables}
use Rattle.dm_durable.specs.Tables.{ByNumber}
use Rattle.dm_model.specs.declared.state.OpenRequest.{OpenRequest}
use Rattle.dm_model.specs.DaemonShare.{requests_after_step, with_change_on}

abbrev pub requests_after : DaemonTables → ByNumber OpenRequest → DaemonStep → ByNumber OpenRequest
requests_after t requests s =
    requests_after_step (record { cap = 0; tables = t; requests = requests; next_request = 0; doubt = None }) s

-- the same of a step in doubt, if one is
abbrev pub requests_after_doubt : DaemonTables → ByNumber OpenRequest → Option DaemonRecord → ByNumber OpenRequest
requests_after_doubt t requests None = requests
requests_after_doubt t requests (Some r) = requests_after t requests r.step

-- the requests on an inode that was changed keep the number of the change, if it was
abbrev pub noted : Bool → ℕ → Option Ino → ByNumber OpenRequest → ByNumber OpenRequest
noted true change ino requests = with_change_on requests change ino
noted false change ino requests = requests
