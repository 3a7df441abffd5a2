-- The invariant of the joint state: what is published of a sound state, and what is needed besides so that every event
-- keeps it.
use Rattle.std.specs.Prelude.{ℕ, Option, None, Some, List}
use Rattle.std.specs.FinMap as map
use Rattle.dm_tables.specs.Rows.{EachRow}
use Rattle.dm_durable.specs.declared.daemon.Entry.{Entry}
use Rattle.dm_durable.specs.Tables.{ByNumber}
use Rattle.dm_durable.specs.Entries.{groups_asked}
use Rattle.dm_model.specs.declared.state.GroupHistory.{GroupHistory}
use Rattle.dm_model.specs.declared.state.Joint.{Joint}
use Rattle.dm_model.specs.declared.state.OpenRequest.{OpenRequest}
use Rattle.dm_model.specs.declared.state.Side.{Side}
use Rattle.dm_invariant.specs.Catalogue.{CatalogueKept}
use Rattle.dm_invariant.specs.Doubts.{AllConfigured, MayLandIf, GroupMayLandIf}
use Rattle.dm_invariant.specs.Files.{FilesKept, DumpsKept, TakenKept}
use Rattle.dm_invariant.specs.Mounts.{MountsKept}
use Rattle.dm_invariant.specs.Moves.{MovesKept, ReusesKept}
use Rattle.dm_invariant.specs.OnceLive.{OnceKept}
use Rattle.dm_invariant.specs.Places.{PlacesKept}
use Rattle.dm_invariant.specs.Requests.{RequestsKept, RecallsKept}
use Rattle.dm_invariant.specs.Reservations.{ReservationsKept}
use Rattle.dm_invariant.specs.Volumes.{VolumesKept, IsNumberOf}

-- what a group ever committed, and what it was told to delete
abbrev pub committed_in : Option GroupHistory → ByNumber (Unit {0})
committed_in None = map.empty
committed_in (Some h) = h.committed

abbrev pub deleted_in : Option GroupHistory → ByNumber (Unit {0})
deleted_in None = map.empty
deleted_in (Some h) = h.deleted

-- a group with its volumes, copies and mounts
pub record SideKept (entries : ByNumber Entry) (contents : ByNumber (List ℕ)) (taken : ByNumber (Unit {0})) (requests : ByNumber OpenRequest)
    (g : ℕ) (committed deleted : ByNumber (Unit {0})) (s : Side) : Type 0 where
  pub number : IsNumberOf g s.group.tables.group.0
  pub catalogue : CatalogueKept g entries contents taken s.group.tables.volumes s.images s.group.tables.bitfiles committed deleted
  pub volumes : VolumesKept s.group.conf s.group.tables.time.0 s.group.tables.volumes s.group.tips
  pub mounts : MountsKept s.group.conf s.group.tables.volumes s.group.reservations s.copies s.group.moves s.group.reuses s.group.mounts
      s.group.next_mount s.mounts
  pub once : OnceKept contents s.group.tables.volumes s.images s.group.reservations s.group.moves s.mounts
  pub reservations : ReservationsKept g entries contents requests s.group.tables.bitfiles s.group.tables.volumes s.group.tips s.images
      s.group.reservations s.group.next_reservation s.copies
  pub moves : MovesKept contents s.group.tables.volumes s.group.tips s.images s.mounts s.group.next_move s.group.moves
  pub reuses : ReusesKept s.group.conf.hold s.group.tables.time.0 s.group.tables.volumes s.group.tips s.mounts s.group.reuses
  pub places : PlacesKept s.group.tables.bitfiles s.group.reservations s.group.moves s.group.doubt
  pub doubt : GroupMayLandIf g entries contents taken deleted s s.group.doubt

-- the same of the group of a number, with what it has done
abbrev pub SideOf : Joint → ℕ → Side → Type 0
SideOf j g s =
    let h = map.get j.history.groups g in
    SideKept j.daemon.tables.entries j.history.contents j.history.taken j.daemon.requests g (committed_in h) (deleted_in h) s

-- the joint state with all that is kept of it
pub record InvariantHolds (j : Joint) : Type 0 where
  pub files : FilesKept j.daemon.tables j.history.contents j.daemon.cap
  pub dumps : DumpsKept j.daemon.tables.time.0 j.daemon.tables.entries j.daemon.tables.dumps
  pub taken : TakenKept j.daemon.tables.site j.daemon.tables.counter j.daemon.tables.entries j.history.taken
  pub requests : RequestsKept j.daemon.requests j.daemon.next_request j.daemon.tables.inodes j.daemon.tables.entries j.history.contents
  pub recalls : RecallsKept j.workers j.daemon.requests j.daemon.tables.entries j.history.contents
  -- each group that an entry asks is configured
  pub configured : EachRow j.daemon.tables.entries (λ b e. AllConfigured j.sides (groups_asked e))
  pub sides : EachRow j.sides (SideOf j)
  pub doubt : MayLandIf j.daemon.tables j.daemon.requests j.history.contents j.daemon.cap j.sides j.daemon.doubt
