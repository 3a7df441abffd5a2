-- What a refusal says of rows.
use Rattle.std.specs.Prelude.{◌≡◌, List, Some}
use Rattle.dm_config.specs.declared.error.ConfigError.{ConfigError}
use Rattle.dm_config.specs.declared.error.ConfigError.TheVariants.{BadConfig, NoMemory}
use Rattle.dm_config.specs.Rows.{Row, first_violated}

-- the key is that of the first row that is violated; want of memory says nothing
abbrev pub Misses : List Row → ConfigError → Type 0
Misses rows (BadConfig k) = first_violated rows ≡ Some k
Misses rows NoMemory = Unit {0}
