-- The limits of numbers that stand in records, as facts. The numbers themselves are constants of dm_base.
use Rattle.std.specs.Prelude.{ℕ, ◌≤◌, Option, None, Some, List}
use Rattle.std.specs.List.{AllByRecursion}
use Rattle.dm_base.specs.declared.identifier.GroupId.{GroupId}
use Rattle.dm_base.specs.declared.identifier.Secs.{Secs}
use Rattle.dm_base.specs.Limits.{number_limit, groups_limit, volume_least, volume_limit}

-- a site, or a counter that puts begin with
pub record IsFirstNumber (n : ℕ) : Type 0 where
  pub least : 1 ≤ n
  pub most : n ≤ number_limit

-- the number of a group
pub record IsGroupNumber (g : ℕ) : Type 0 where
  pub least : 1 ≤ g
  pub most : g ≤ groups_limit

abbrev pub AreGroups : List GroupId → Type 0
AreGroups groups = AllByRecursion (λ g. IsGroupNumber g.0) groups

-- the size of a volume
pub record IsVolumeSize (n : ℕ) : Type 0 where
  pub least : volume_least ≤ n
  pub most : n ≤ volume_limit

-- a time that may be there isn't one to come
abbrev pub IsPast : ℕ → Option Secs → Type 0
IsPast now None = Unit {0}
IsPast now (Some time) = time.0 ≤ now
