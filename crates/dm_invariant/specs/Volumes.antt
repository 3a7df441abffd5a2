-- The invariant, of the volumes of a group.
use Rattle.std.specs.Prelude.{◌≡◌, ◌<◌, ◌≤◌, ℕ, true, Some, List, length}
use Rattle.std.specs.FinMap as map
use Rattle.dm_base.specs.Limits.{volumes_limit, epoch_limit}
use Rattle.dm_base.specs.Naming.{IsSerial}
use Rattle.dm_base.specs.declared.conf.GroupConf.{GroupConf}
use Rattle.dm_base.specs.declared.serial.Vsn.{Vsn}
use Rattle.dm_rules.specs.Label.{first_zone}
use Rattle.dm_rules.specs.Version.{IsVersion}
use Rattle.dm_tables.specs.Rows.{EachRow}
use Rattle.dm_durable.specs.declared.group.VolumeRow.{VolumeRow}
use Rattle.dm_durable.specs.Limits.{IsVolumeSize, IsGroupNumber, IsPast}
use Rattle.dm_durable.specs.Tables.{ByName}
use Rattle.dm_durable.specs.Volumes.{is_listed, tip_in}
use Rattle.dm_model.specs.declared.state.Image.{Image}
use Rattle.dm_invariant.specs.Among.{IsAmong}

-- a group's configuration: its number and the size of its volumes are within their limits, chunks have bytes, serial numbers
-- are in their grammar, there are no more volumes than a group may have, and the format is a version
pub record ConfFits (conf : GroupConf) : Type 0 where
  pub group : IsGroupNumber conf.group.0
  pub chunk : 0 < conf.chunk
  pub serials : (v : Vsn) → IsAmong v conf.volumes → IsSerial v.0
  pub many : length conf.volumes ≤ volumes_limit
  pub sized : IsVolumeSize conf.size
  pub format : IsVersion conf.format

-- the number of a group is the one that its tables have, and is within its limits
pub record IsNumberOf (g n : ℕ) : Type 0 where
  pub same : n ≡ g
  pub fits : IsGroupNumber g

-- a volume of the configuration
abbrev pub IsOfConf : GroupConf → List ℕ → Type 0
IsOfConf conf vsn = is_listed conf.volumes vsn ≡ true

-- a volume of the tables is one of the configuration's; its numbers are within their limits; and its label, end, tip and
-- size follow one another
pub record VolumeKept (conf : GroupConf) (tips : ByName ℕ) (now : ℕ) (vsn : List ℕ) (v : VolumeRow) : Type 0 where
  pub configured : IsOfConf conf vsn
  pub size : v.size ≡ conf.size
  pub slot : v.slot < volumes_limit
  pub version : IsVersion v.version
  pub epoch : 1 ≤ v.epoch
  pub last : v.epoch ≤ epoch_limit
  pub label : first_zone ≤ v.end
  pub end : v.end ≤ tip_in tips vsn v
  pub tip : tip_in tips vsn v ≤ v.size
  -- it is not held since a time that is still to come
  pub freed : IsPast now v.held

-- what is kept of volumes: no two have one slot
pub record VolumesKept (conf : GroupConf) (now : ℕ) (volumes : ByName VolumeRow) (tips : ByName ℕ) : Type 0 where
  pub fits : ConfFits conf
  pub volume : EachRow volumes (VolumeKept conf tips now)
  pub slots : (v w : List ℕ) (x y : VolumeRow) → map.get volumes v ≡ Some x → map.get volumes w ≡ Some y → x.slot ≡ y.slot → v ≡ w

-- ---- images

-- a volume has an image of this size
pub record HasImage (images : ByName Image) (vsn : List ℕ) (size : ℕ) : Type 0 where
  pub image : Image
  pub is : map.get images vsn ≡ Some image
  pub sized : image.size ≡ size

-- each volume of the configuration has an image of the size that it is to have. A volume of the tables is one of these
abbrev pub ImagesFit : GroupConf → ByName Image → Type 0
ImagesFit conf images = (vsn : List ℕ) → IsOfConf conf vsn → HasImage images vsn conf.size
