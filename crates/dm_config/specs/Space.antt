-- What the rows of space say.
use Rattle.std.specs.Prelude.{◌≡◌, ℕ, Some}
use Rattle.dm_base.specs.declared.conf.SpaceConf.{SpaceConf}
use Rattle.toml.specs.Data.{Members}
use Rattle.dm_config.specs.Rows.{high_in, low_in, ahead_in, age_weight_in, size_weight_in}

pub record HasSpace (cap : ℕ) (s : Members) (space : SpaceConf) : Type 0 where
  pub high : high_in cap s ≡ Some space.high
  pub low : low_in space.high s ≡ Some space.low
  pub ahead : ahead_in cap s ≡ Some space.ahead
  pub age_weight : age_weight_in s ≡ Some space.age_weight
  pub size_weight : size_weight_in s ≡ Some space.size_weight
