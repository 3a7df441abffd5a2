-- What is asked of a configuration with which a site begins.
use Rattle.std.specs.Prelude.{◌≤◌, List}
use Rattle.dm_base.specs.Limits.{age_limit}
use Rattle.dm_base.specs.declared.conf.DaemonConf.{DaemonConf}
use Rattle.dm_base.specs.declared.conf.GroupConf.{GroupConf}
use Rattle.dm_durable.specs.Limits.{IsFirstNumber}
use Rattle.dm_invariant.specs.Among.{IsAmong}
use Rattle.dm_invariant.specs.Volumes.{ConfFits}

-- the numbers of the daemon are within their limits, and each group's configuration fits
pub record FirstConf (conf : DaemonConf) (groups : List GroupConf) : Type 0 where
  pub site : IsFirstNumber conf.site
  pub first : IsFirstNumber conf.first
  pub age : conf.age ≤ age_limit
  pub groups_fit : (c : GroupConf) → IsAmong c groups → ConfFits c
