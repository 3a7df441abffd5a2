-- What of a joint state can be told and held.
use Rattle.dm_daemon_plans.specs.Range.{IsDaemonInRange}
use Rattle.dm_group_usage.specs.Range.{IsGroupInRange}
use Rattle.dm_model.specs.declared.state.Joint.{Joint}
use Rattle.dm_tables.specs.Rows.{EachRow}

-- the daemon's files have paths; the volumes of each group stand under serial numbers, and 64 bits hold the places that its calls make
pub record IsInRange (j : Joint) : Type 0 where
  pub daemon : IsDaemonInRange j.daemon
  pub sides : EachRow j.sides (λ g side. IsGroupInRange side.group)
