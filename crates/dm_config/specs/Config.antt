-- What a text configures, and the first key that it is refused for.
use Rattle.std.specs.Prelude.{◌≡◌, ◌⊎◌, ℕ, ◌<◌, ◌≤◌, List, [], ◌∷◌, length, codes, Some, None, IsUtf8}
use Rattle.dm_base.specs.Limits.{conf_text_limit}
use Rattle.dm_base.specs.declared.conf.ConfKey.{ConfKey}
use Rattle.dm_base.specs.declared.conf.ConfKey.TheVariants as key
use Rattle.toml.specs.Data.{Members, get_member}
use Rattle.toml.specs.Parse.{parse_document}
use Rattle.dm_config.specs.declared.config.Config.{Config}
use Rattle.dm_config.specs.declared.error.ConfigError.{ConfigError}
use Rattle.dm_config.specs.declared.error.ConfigError.TheVariants.{BadConfig, NoMemory}
use Rattle.dm_config.specs.Value.{copies_in}
use Rattle.dm_config.specs.Rows.{first_violated, rows_of, site_in, first_in, age_in, cap_in, sessions_in, groups_in, space_in, high_in, low_in, ahead_in, age_weight_in, size_weight_in}
use Rattle.dm_config.specs.Groups.{AreGroups}

-- the configuration that a table says, where its rows are met
pub record IsOf (t : Members) (c : Config) : Type 0 where
  pub site : site_in t ≡ Some c.daemon.site
  pub first : first_in t ≡ Some c.daemon.first
  pub age : age_in t ≡ Some c.daemon.age
  pub cap : cap_in t ≡ Some c.daemon.cap
  pub sessions : sessions_in t ≡ Some c.sessions
  pub copies : copies_in (groups_in t) (get_member (codes "copies") t) ≡ Some c.copies
  pub groups : AreGroups (groups_in t) (1 ∷ 2 ∷ 3 ∷ 4 ∷ []) [] c.groups
  pub high : high_in c.daemon.cap (space_in t) ≡ Some c.space.high
  pub low : low_in c.space.high (space_in t) ≡ Some c.space.low
  pub ahead : ahead_in c.daemon.cap (space_in t) ≡ Some c.space.ahead
  pub age_weight : age_weight_in (space_in t) ≡ Some c.space.age_weight
  pub size_weight : size_weight_in (space_in t) ≡ Some c.space.size_weight

-- a text that is short enough and that TOML reads as this table
pub record Reads (text : List ℕ) (t : Members) : Type 0 where
  pub short : length text ≤ conf_text_limit
  pub is_text : IsUtf8 text
  pub document : parse_document text ≡ Some t

-- the text configures this: no row is violated
pub record Configures (text : List ℕ) (c : Config) : Type 0 where
  pub table : Members
  pub reads : Reads text table
  pub met : first_violated (rows_of table) ≡ None
  pub is_of : IsOf table c

-- a text that is short enough, and that TOML refuses
pub record IsNoToml (text : List ℕ) : Type 0 where
  pub short : length text ≤ conf_text_limit
  pub refused : IsUtf8 text → parse_document text ≡ None

-- TOML reads the text, and this is the first key whose row is violated
pub record Violates (text : List ℕ) (k : ConfKey) : Type 0 where
  pub table : Members
  pub reads : Reads text table
  pub first : first_violated (rows_of table) ≡ Some k

-- the first key that the text is refused for: its length, its grammar, or a row
abbrev pub IsRefusedFor : List ℕ → ConfKey → Type 0
IsRefusedFor text k =
    ((conf_text_limit < length text) × (k ≡ key.Length)) ⊎ ((IsNoToml text × (k ≡ key.Toml)) ⊎ Violates text k)

-- what a refusal says of the text; want of memory says nothing
abbrev pub RefusedFor : List ℕ → ConfigError → Type 0
RefusedFor text (BadConfig k) = IsRefusedFor text k
RefusedFor text NoMemory = Unit {0}
