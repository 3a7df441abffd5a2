-- What of a group can be told and held: its volumes stand under serial numbers, and 64 bits hold each place that a call makes.
--
-- The definitions of plans are over all numbers and texts. Of a state that isn't in range a call may have no answer that can be made.
use Rattle.std.specs.Prelude.{◌≡◌, ℕ, ◌+◌, ◌≤◌, Bool, true, ◌&&◌, ⊤, Option, None, Some, List, nat_eq, nat_le, length}
use Rattle.std.specs.List.{list_all}
use Rattle.std.specs.FinMap as map
use Rattle.dm_base.specs.declared.serial.TheConstants.{VSN_LENGTH}
use Rattle.dm_base.specs.declared.volume.Piece.{Piece}
use Rattle.dm_durable.specs.declared.group.VolumeRow.{VolumeRow}
use Rattle.dm_durable.specs.Tables.{ByName}
use Rattle.dm_durable.specs.Volumes.{tip_in}
use Rattle.dm_model.specs.declared.state.Group.{Group}
use Rattle.dm_model.specs.declared.state.Reserved.{Reserved}
use Rattle.dm_model.specs.declared.state.Side.{Side}
use Rattle.dm_rules.specs.declared.space.Space.{Space}
use Rattle.dm_rules.specs.Numbers.{last_u64}
use Rattle.dm_rules.specs.Plan.{zone_end}
use Rattle.dm_rules.specs.Version.{chunk_header}
use Rattle.dm_rules.specs.Zone.{zone_header}
use Rattle.dm_tables.specs.Rows.{EachRow}

-- whether each volume stands under a serial number
abbrev pub are_serials_in : ByName VolumeRow → Bool
are_serials_in volumes = list_all (λ e. nat_eq (length e.0) VSN_LENGTH) (map.entries volumes)

-- whether 64 bits hold the end of the zone of a piece, with chunks of this length, and the end of the piece in its bitfile
abbrev pub is_piece_in_range : ℕ → Piece → Bool
is_piece_in_range chunk p = nat_le (zone_end chunk p) last_u64 && nat_le (p.offset + p.len) last_u64

abbrev pub are_pieces_in_range : ℕ → List Piece → Bool
are_pieces_in_range chunk pieces = list_all (is_piece_in_range chunk) pieces

abbrev pub is_reserved_in_range : Option Reserved → Bool
is_reserved_in_range None = true
is_reserved_in_range (Some r) = are_pieces_in_range r.chunk r.pieces

-- whether 64 bits hold the place of the bytes of a chunk at the tip of a volume
abbrev pub is_space_in_range : Space → Bool
is_space_in_range s = nat_le (s.tip + zone_header + chunk_header s.version) last_u64

abbrev pub is_target_in_range : Option Space → Bool
is_target_in_range None = true
is_target_in_range (Some s) = is_space_in_range s

-- all of a group that its calls look at
pub record IsGroupInRange (group : Group) : Type 0 where
  pub serials : EachRow group.tables.volumes (λ vsn v. length vsn ≡ VSN_LENGTH)
  pub tips : EachRow group.tables.volumes (λ vsn v. tip_in group.tips vsn v + zone_header + chunk_header v.version ≤ last_u64)
  pub pieces : EachRow group.reservations (λ n r. are_pieces_in_range r.chunk r.pieces ≡ true)

-- the group of a side, if it is configured
abbrev pub IsSideInRange : Option Side → Type 0
IsSideInRange None = ⊤
IsSideInRange (Some s) = IsGroupInRange s.group
