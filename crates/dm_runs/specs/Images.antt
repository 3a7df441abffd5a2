-- The images of volumes.
use Rattle.dm_tables.specs.Rows.{EachRow}
use Rattle.dm_model.specs.declared.state.Joint.{Joint}
use Rattle.dm_invariant.specs.Volumes.{HasImage, ImagesFit}

-- each volume of the configuration has an image of its size
abbrev pub ImagesThere : Joint → Type 0
ImagesThere j = EachRow j.sides (λ g s. ImagesFit s.group.conf s.images)

-- so has each volume of the tables
abbrev pub VolumesImaged : Joint → Type 0
VolumesImaged j = EachRow j.sides (λ g s. EachRow s.group.tables.volumes (λ vsn v. HasImage s.images vsn v.size))
