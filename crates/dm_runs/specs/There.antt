-- What the calls of groups find, in a state after a run.
use Rattle.std.specs.Prelude.{◌≡◌, ◌⊎◌, ◌<◌, ◌+◌, ℕ, true, false, Some, IsSome}
use Rattle.std.specs.FinMap as map
use Rattle.dm_base.specs.declared.volume.Chunk.{Chunk}
use Rattle.dm_tables.specs.Rows.{EachRow}
use Rattle.dm_durable.specs.declared.daemon.Entry.{Entry}
use Rattle.dm_durable.specs.declared.group.BitfileRow.{BitfileRow}
use Rattle.dm_durable.specs.Entries.{asks, is_stored}
use Rattle.dm_durable.specs.Group.{chunk_at}
use Rattle.dm_model.specs.declared.state.CopyReservation.{CopyReservation}
use Rattle.dm_model.specs.declared.state.CopyState.{CopyState}
use Rattle.dm_model.specs.declared.state.Joint.{Joint}
use Rattle.dm_model.specs.declared.state.Reserved.{Reserved}
use Rattle.dm_model.specs.declared.state.Side.{Side}
use Rattle.dm_model.specs.GroupCalls.{may_reserve, recalls_from}
use Rattle.dm_invariant.specs.Among.{IsAmong}
use Rattle.dm_invariant.specs.Reservations.{PutOf}

-- the entry is there, asks the group and has this length
pub record AskedEntry (j : Joint) (g b len : ℕ) : Type 0 where
  pub entry : Entry
  pub is : map.get j.daemon.tables.entries b ≡ Some entry
  pub asked : asks entry g ≡ true
  pub sized : entry.len ≡ len

-- so it is where room may be reserved for the bitfile
abbrev pub ReservedAsked : Joint → Type 0
ReservedAsked j =
    (g b len : ℕ) (s : Side) → map.get j.sides g ≡ Some s → may_reserve (map.get s.copies b) len ≡ true → AskedEntry j g b len

-- the entry is there, isn't being dropped, and has every copy stored; and the group has the bitfile
pub record WholeEntry (j : Joint) (b : ℕ) (s : Side) : Type 0 where
  pub entry : Entry
  pub is : map.get j.daemon.tables.entries b ≡ Some entry
  pub lasting : entry.dropping ≡ false
  pub whole : is_stored entry ≡ true
  pub there : IsSome (map.get s.group.tables.bitfiles b)

-- so it is where a worker may mount a chunk of it
abbrev pub MountedWhole : Joint → Type 0
MountedWhole j =
    (w g b : ℕ) (s : Side) → map.get j.sides g ≡ Some s → recalls_from b g (map.get j.workers w) ≡ true → WholeEntry j b s

-- where a chunk ends one begins, or the bitfile ends
abbrev pub ChunksFollow : Joint → Type 0
ChunksFollow j =
    (g b : ℕ) (s : Side) (row : BitfileRow) (c : Chunk) → map.get j.sides g ≡ Some s → map.get s.group.tables.bitfiles b ≡ Some row → IsAmong c row.chunks
    → (c.offset + c.len ≡ row.len) ⊎ IsSome (chunk_at (c.offset + c.len) row.chunks)

-- a copy that is kept is one of an open put, under the number that it has; and its reservation, where it shows one, is open and of
-- its bitfile
pub record CopyOpen (j : Joint) (s : Side) (b : ℕ) (c : CopyState) : Type 0 where
  pub put : PutOf j.daemon.requests c.request b
  pub reservation : (held : CopyReservation) → c.reservation ≡ Some held
      → (r : Reserved) × (map.get s.group.reservations held.number ≡ Some r) × (r.bfid.0 ≡ b)

abbrev pub CopiesOpen : Joint → Type 0
CopiesOpen j = EachRow j.sides (λ g s. EachRow s.copies (CopyOpen j s))

-- the next number of each kind of token is one that none has
pub record NumbersNew (j : Joint) : Type 0 where
  pub requests : EachRow j.daemon.requests (λ n r. n < j.daemon.next_request)
  pub reservations : EachRow j.sides (λ g s. EachRow s.group.reservations (λ n r. n < s.group.next_reservation))
  pub mounts : EachRow j.sides (λ g s. EachRow s.mounts (λ m x. m < s.group.next_mount))
  pub moves : EachRow j.sides (λ g s. EachRow s.group.moves (λ n x. n < s.group.next_move))
