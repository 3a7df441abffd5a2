-- The invariant, of the copies that are being stored in a group, and of its reservations.
use Rattle.std.specs.Prelude.{◌≡◌, ◌<◌, ◌≤◌, ◌+◌, ℕ, true, Some, None, List, [], ◌∷◌, length}
use Rattle.std.specs.FinMap as map
use Rattle.dm_base.specs.declared.volume.Piece.{Piece}
use Rattle.dm_rules.specs.Known.{known_bytes}
use Rattle.dm_rules.specs.Label.{first_zone}
use Rattle.dm_rules.specs.Plan.{zone_end}
use Rattle.dm_rules.specs.Zone.{zone_length}
use Rattle.dm_tables.specs.Rows.{EachRow}
use Rattle.dm_durable.specs.declared.daemon.Entry.{Entry}
use Rattle.dm_durable.specs.declared.group.BitfileRow.{BitfileRow}
use Rattle.dm_durable.specs.declared.group.VolumeRow.{VolumeRow}
use Rattle.dm_durable.specs.Tables.{ByNumber, ByName}
use Rattle.dm_durable.specs.Volumes.{tip_in}
use Rattle.dm_model.specs.declared.state.CopyReservation.{CopyReservation}
use Rattle.dm_model.specs.declared.state.CopyState.{CopyState}
use Rattle.dm_model.specs.declared.state.Image.{Image}
use Rattle.dm_model.specs.declared.state.OpenRequest.{OpenRequest}
use Rattle.dm_model.specs.declared.state.Reserved.{Reserved}
use Rattle.dm_model.specs.declared.state.WrittenZone.{WrittenZone}
use Rattle.dm_model.specs.Files.{is_put}
use Rattle.dm_model.specs.GroupCalls.{piece_at}
use Rattle.dm_invariant.specs.Among.{IsAmong}
use Rattle.dm_invariant.specs.Assemble.{known_on}
use Rattle.dm_invariant.specs.Catalogue.{AskedBitfile}

-- the pieces are bytes of a bitfile from one offset to another: each begins where the one before ends
abbrev pub PiecesJoin : ℕ → List Piece → ℕ → Type 0
PiecesJoin from [] to = from ≡ to
PiecesJoin from (p ∷ ps) to = (p.offset ≡ from) × (0 < p.len) × PiecesJoin (from + p.len) ps to

-- a zone of a reservation lies behind the label of a volume that isn't held, before its tip, and has that volume's version
pub record ZoneInHand (volumes : ByName VolumeRow) (tips : ByName ℕ) (chunk : ℕ) (p : Piece) : Type 0 where
  pub volume : VolumeRow
  pub is : map.get volumes p.vsn.0 ≡ Some volume
  pub usable : volume.held ≡ None
  pub version : p.version ≡ volume.version
  pub behind : first_zone ≤ p.zone
  pub within : zone_end chunk p ≤ tip_in tips p.vsn.0 volume

-- the last write of a piece: it is known where the zone of the piece stands, and has its length
pub record WrittenKept (images : ByName Image) (chunk : ℕ) (p : Piece) (w : WrittenZone) : Type 0 where
  pub len : length w.zone ≡ zone_length p.version chunk p.len
  pub known : known_bytes (known_on images p.vsn.0) p.zone (length w.zone) ≡ Some w.zone

-- a reservation is the one of its bitfile's copy; the group doesn't have the bitfile yet
pub record ReservationKept (bitfiles : ByNumber BitfileRow) (volumes : ByName VolumeRow) (tips : ByName ℕ) (images : ByName Image)
    (copies : ByNumber CopyState) (n : ℕ) (r : Reserved) : Type 0 where
  pub copy : CopyState
  pub is : map.get copies r.bfid.0 ≡ Some copy
  pub held : CopyReservation
  pub has : copy.reservation ≡ Some held
  pub number : held.number ≡ n
  pub len : copy.len ≡ r.len
  pub new : map.get bitfiles r.bfid.0 ≡ None
  pub some : 0 < r.chunk
  pub joins : PiecesJoin 0 r.pieces r.len
  pub zones : (p : Piece) → IsAmong p r.pieces → ZoneInHand volumes tips r.chunk p
  pub written : EachRow held.written (λ index w. (p : Piece) → piece_at index r.pieces ≡ Some p → WrittenKept images r.chunk p w)

-- the put of a request is the one that a copy is of
pub record PutOf (requests : ByNumber OpenRequest) (k b : ℕ) : Type 0 where
  pub request : OpenRequest
  pub is : map.get requests k ≡ Some request
  pub put : is_put request.kind ≡ true
  pub same : request.bfid.0 ≡ b

-- a copy is of a bitfile that was asked of the group and whose put is open; its length is that of the entry
pub record CopyKept (g : ℕ) (entries : ByNumber Entry) (contents : ByNumber (List ℕ)) (requests : ByNumber OpenRequest)
    (reservations : ByNumber Reserved) (b : ℕ) (c : CopyState) : Type 0 where
  pub of : AskedBitfile g entries contents b
  pub len : of.entry.len ≡ c.len
  pub put : PutOf requests c.request b
  pub reservation : (held : CopyReservation) → c.reservation ≡ Some held
      → (r : Reserved) × (map.get reservations held.number ≡ Some r) × (r.bfid.0 ≡ b)

-- what is kept of reservations and copies
pub record ReservationsKept (g : ℕ) (entries : ByNumber Entry) (contents : ByNumber (List ℕ)) (requests : ByNumber OpenRequest)
    (bitfiles : ByNumber BitfileRow) (volumes : ByName VolumeRow) (tips : ByName ℕ) (images : ByName Image) (reservations : ByNumber Reserved)
    (next : ℕ) (copies : ByNumber CopyState) : Type 0 where
  pub numbers : EachRow reservations (λ n r. n < next)
  pub reservation : EachRow reservations (ReservationKept bitfiles volumes tips images copies)
  pub copy : EachRow copies (CopyKept g entries contents requests reservations)
