-- A volume that the tables hadn't as it was mounted, and one that they had.
use Rattle.std.specs.Prelude.{◌≡◌, ℕ, is_some, List}
use Rattle.std.specs.FinMap as map
use Rattle.dm_tables.specs.Rows.{EachRow}
use Rattle.dm_durable.specs.declared.group.VolumeRow.{VolumeRow}
use Rattle.dm_durable.specs.Tables.{ByNumber, ByName}
use Rattle.dm_model.specs.declared.state.Joint.{Joint}
use Rattle.dm_model.specs.declared.state.MountState.{MountState}
use Rattle.dm_model.specs.declared.state.Origin.{Origin}
use Rattle.dm_model.specs.declared.state.Origin.TheVariants as origin

-- a mount of any volume says whether the tables had the volume: that is whether they have it now
abbrev pub ListedAs : ByName VolumeRow → List ℕ → Origin → Type 0
ListedAs volumes vsn (origin.New listed format) = listed ≡ is_some (map.get volumes vsn)
ListedAs volumes vsn (origin.Piece b index p chunk) = Unit {0}
ListedAs volumes vsn (origin.Chunk b c) = Unit {0}
ListedAs volumes vsn (origin.Source job b c) = Unit {0}
ListedAs volumes vsn (origin.Target job b total c version) = Unit {0}
ListedAs volumes vsn (origin.Reuse next_epoch version reading) = Unit {0}

abbrev pub MountsListed : ByName VolumeRow → ByNumber MountState → Type 0
MountsListed volumes mounts = EachRow mounts (λ m x. ListedAs volumes x.vsn.0 x.origin)

-- so it is of each mount
abbrev pub ListedRight : Joint → Type 0
ListedRight j = EachRow j.sides (λ g s. MountsListed s.group.tables.volumes s.mounts)
