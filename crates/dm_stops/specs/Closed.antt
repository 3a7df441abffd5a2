-- What the end of the program, and the start after it, leave of what the program keeps while it runs: nothing is open, no
-- step is in doubt, and each put has ended.
use Rattle.std.specs.Prelude.{◌≡◌, false, None}
use Rattle.std.specs.FinMap as map
use Rattle.dm_tables.specs.Rows.{EachRow}
use Rattle.dm_durable.specs.Inodes.{has_making}
use Rattle.dm_model.specs.declared.state.Joint.{Joint}
use Rattle.dm_model.specs.declared.state.Side.{Side}

-- a group: its tips are the ends of its volumes
pub record SideClosed (s : Side) : Type 0 where
  pub reservations : s.group.reservations ≡ map.empty
  pub group_mounts : s.group.mounts ≡ map.empty
  pub moves : s.group.moves ≡ map.empty
  pub reuses : s.group.reuses ≡ map.empty
  pub tips : s.group.tips ≡ map.empty
  pub copies : s.copies ≡ map.empty
  pub mounts : s.mounts ≡ map.empty
  pub doubt : s.group.doubt ≡ None

pub record Closed (j : Joint) : Type 0 where
  pub requests : j.daemon.requests ≡ map.empty
  pub doubt : j.daemon.doubt ≡ None
  pub workers : j.workers ≡ map.empty
  pub ended : has_making j.daemon.tables.inodes ≡ false
  pub sides : EachRow j.sides (λ g s. SideClosed s)
