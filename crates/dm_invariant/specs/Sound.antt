-- Sound states of the joint machine: what is published of the invariant.
--
-- Soundness says what a reader of the tables and the volumes may rely on. It is made of the invariant's records, by subject, so
-- that a fact is written once and kept in both; it leaves out what only the induction over events needs.
use Rattle.std.specs.Prelude.{◌≡◌, ℕ, true, Some, IsSome, List, length}
use Rattle.std.specs.FinMap as map
use Rattle.dm_tables.specs.Rows.{EachRow}
use Rattle.dm_durable.specs.declared.daemon.Entry.{Entry}
use Rattle.dm_durable.specs.Tables.{ByNumber}
use Rattle.dm_durable.specs.Entries.{asks}
use Rattle.dm_model.specs.declared.state.Daemon.{Daemon}
use Rattle.dm_model.specs.declared.state.History.{History}
use Rattle.dm_model.specs.declared.state.Joint.{Joint}
use Rattle.dm_model.specs.declared.state.Side.{Side}
use Rattle.dm_invariant.specs.Assemble.{assembled_bytes}
use Rattle.dm_invariant.specs.Catalogue.{BitfileKept, StoredKept}
use Rattle.dm_invariant.specs.Doubts.{MayLandIf, GroupMayLandIf}
use Rattle.dm_invariant.specs.Files.{FilesKept, DumpsKept}
use Rattle.dm_invariant.specs.Kept.{deleted_in}
use Rattle.dm_invariant.specs.Mounts.{MountsKept}
use Rattle.dm_invariant.specs.Moves.{MovesKept, ReusesKept}
use Rattle.dm_invariant.specs.Places.{PlacesKept}
use Rattle.dm_invariant.specs.Requests.{RequestsKept}
use Rattle.dm_invariant.specs.Reservations.{ReservationsKept}
use Rattle.dm_invariant.specs.Volumes.{VolumesKept}

-- ---- a group

pub record GroupSound (d : Daemon) (h : History) (g : ℕ) (s : Side) : Type 0 where
  -- each bitfile that the group has was asked of it; its chunks join, lie before the end of volumes that aren't held, have
  -- their right sums, and are known to be its content
  pub bitfiles : EachRow s.group.tables.bitfiles (BitfileKept g d.tables.entries h.contents s.group.tables.volumes s.images)
  -- what an entry says is stored is there, unless it is being dropped
  pub stored : StoredKept g d.tables.entries s.group.tables.bitfiles
  -- volumes are those of the configuration, no two of one slot, and were freed in the past; of each 64, end, tip and size
  -- follow one another
  pub volumes : VolumesKept s.group.conf s.group.tables.time.0 s.group.tables.volumes s.group.tips
  -- mounts have the epochs of their volumes; a volume has one, and the group no more than drives
  pub mounts : MountsKept s.group.conf s.group.tables.volumes s.group.reservations s.copies s.group.moves s.group.reuses s.group.mounts
      s.group.next_mount s.mounts
  -- zones of reservations are in hand, and each reservation is of a bitfile whose put is open
  pub reservations : ReservationsKept g d.tables.entries h.contents d.requests s.group.tables.bitfiles s.group.tables.volumes s.group.tips s.images
      s.group.reservations s.group.next_reservation s.copies
  -- so are those of chunks that are moved
  pub moves : MovesKept h.contents s.group.tables.volumes s.group.tips s.images s.mounts s.group.next_move s.group.moves
  pub reuses : ReusesKept s.group.conf.hold s.group.tables.time.0 s.group.tables.volumes s.group.tips s.mounts s.group.reuses
  -- no place is of two: chunks, and zones in hand, those that a record in doubt fills among them
  pub places : PlacesKept s.group.tables.bitfiles s.group.reservations s.group.moves s.group.doubt
  -- a step in doubt may be done, what it does is right, and the zones that it fills are in hand
  pub doubt : GroupMayLandIf g d.tables.entries h.contents h.taken (deleted_in (map.get h.groups g)) s s.group.doubt

-- ---- the whole

pub record Sound (j : Joint) : Type 0 where
  -- the daemon's tables may be a state that a checkpoint writes: among it, times lie in the past, numbers below the next ones;
  -- files agree with the entries and the contents of their bitfiles
  pub files : FilesKept j.daemon.tables j.history.contents j.daemon.cap
  -- so do young dumps
  pub dumps : DumpsKept j.daemon.tables.time.0 j.daemon.tables.entries j.daemon.tables.dumps
  -- the entries of open requests are there
  pub requests : RequestsKept j.daemon.requests j.daemon.next_request j.daemon.tables.inodes j.daemon.tables.entries j.history.contents
  pub groups : EachRow j.sides (GroupSound j.daemon j.history)
  -- a step in doubt may be done, and what it does is right
  pub doubt : MayLandIf j.daemon.tables j.daemon.requests j.history.contents j.daemon.cap j.sides j.daemon.doubt

-- ---- copies, which follows from it

-- the copy that a group has of a bitfile is the content, which has the length of the entry
pub record CopyRight (contents : ByNumber (List ℕ)) (s : Side) (b : ℕ) (e : Entry) : Type 0 where
  pub bytes : List ℕ
  pub copy : assembled_bytes s b ≡ Some bytes
  pub content : map.get contents b ≡ Some bytes
  pub len : length bytes ≡ e.len

-- so it is where the group was asked and has the bitfile, also of an entry that is being dropped
abbrev pub CopySound : ByNumber (List ℕ) → ℕ → Side → ℕ → Entry → Type 0
CopySound contents g s b e = asks e g ≡ true → IsSome (map.get s.group.tables.bitfiles b) → CopyRight contents s b e

-- of each entry and each group
abbrev pub CopiesSound : Joint → Type 0
CopiesSound j = EachRow j.daemon.tables.entries (λ b e. EachRow j.sides (λ g s. CopySound j.history.contents g s b e))
