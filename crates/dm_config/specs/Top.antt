-- What the rows at the top say.
use Rattle.std.specs.Prelude.{◌≡◌, Some, codes}
use Rattle.toml.specs.Data.{Members, get_member}
use Rattle.dm_config.specs.declared.top.Top.{Top}
use Rattle.dm_config.specs.Value.{copies_in}
use Rattle.dm_config.specs.Rows.{site_in, first_in, age_in, cap_in, sessions_in, groups_in}

pub record IsTop (t : Members) (top : Top) : Type 0 where
  pub site : site_in t ≡ Some top.daemon.site
  pub first : first_in t ≡ Some top.daemon.first
  pub age : age_in t ≡ Some top.daemon.age
  pub cap : cap_in t ≡ Some top.daemon.cap
  pub sessions : sessions_in t ≡ Some top.sessions
  pub copies : copies_in (groups_in t) (get_member (codes "copies") t) ≡ Some top.copies
