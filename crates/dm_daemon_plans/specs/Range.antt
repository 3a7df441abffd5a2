-- What of the daemon can be told: its files have paths.
use Rattle.dm_base.specs.Naming.{IsPath}
use Rattle.dm_model.specs.declared.state.Daemon.{Daemon}
use Rattle.dm_tables.specs.Rows.{EachRow}

pub record IsDaemonInRange (d : Daemon) : Type 0 where
  pub names : EachRow d.tables.names (λ text n. IsPath text)
