-- Opened states: those in which a run begins.
use Rattle.std.specs.Prelude.{◌≡◌, false, None, IsSome}
use Rattle.std.specs.FinMap as map
use Rattle.dm_tables.specs.Rows.{EachRow}
use Rattle.dm_durable.specs.Tables.{ByNumber}
use Rattle.dm_durable.specs.Entries.{groups_asked}
use Rattle.dm_durable.specs.Inodes.{has_making}
use Rattle.dm_model.specs.declared.state.Joint.{Joint}
use Rattle.dm_model.specs.declared.state.Side.{Side}
use Rattle.dm_invariant.specs.Doubts.{AllConfigured}
use Rattle.dm_invariant.specs.Files.{TakenKept}
use Rattle.dm_invariant.specs.Kept.{committed_in, deleted_in}
use Rattle.dm_invariant.specs.Sound.{Sound}
use Rattle.dm_invariant.specs.Volumes.{ImagesFit, IsNumberOf}

-- ---- what the configuration asks

-- each group that an entry asks is configured, and the tables of each group have its number. That files and dumps fit under
-- the cap, and that volumes are those of the configuration, is of files and volumes
pub record IsAsConfigured (j : Joint) : Type 0 where
  pub entries : EachRow j.daemon.tables.entries (λ b e. AllConfigured j.sides (groups_asked e))
  pub sides : EachRow j.sides (λ g s. IsNumberOf g s.group.tables.group.0)

-- ---- what is lost as the program stops, and what the past shows

-- a group has nothing open; what it ever committed is what it has, and it was told to delete nothing
pub record SideOpened (committed deleted : ByNumber (Unit {0})) (s : Side) : Type 0 where
  pub reservations : s.group.reservations ≡ map.empty
  pub group_mounts : s.group.mounts ≡ map.empty
  pub moves : s.group.moves ≡ map.empty
  pub reuses : s.group.reuses ≡ map.empty
  pub tips : s.group.tips ≡ map.empty
  pub copies : s.copies ≡ map.empty
  pub mounts : s.mounts ≡ map.empty
  pub doubt : s.group.doubt ≡ None
  pub commits : EachRow committed (λ b u. IsSome (map.get s.group.tables.bitfiles b))
  pub has : EachRow s.group.tables.bitfiles (λ b row. IsSome (map.get committed b))
  pub deletes : deleted ≡ map.empty
  -- each of its volumes has an image of its size
  pub images : ImagesFit s.group.conf s.images

pub record Opened (j : Joint) : Type 0 where
  pub sound : Sound j
  pub fits : IsAsConfigured j
  pub requests : j.daemon.requests ≡ map.empty
  pub doubt : j.daemon.doubt ≡ None
  pub workers : j.workers ≡ map.empty
  pub ended : has_making j.daemon.tables.inodes ≡ false
  pub sides : EachRow j.sides (λ g s. let h = map.get j.history.groups g in SideOpened (committed_in h) (deleted_in h) s)
  -- what hard deletes took are the entries that are being dropped
  pub taken : TakenKept j.daemon.tables.site j.daemon.tables.counter j.daemon.tables.entries j.history.taken
