-- The invariant, of chunks that a group had at some moment: while their volume has the epoch that it had then, their bytes stay.
--
-- A mount of a chunk outlives the chunk's row: the bitfile may be deleted, or the chunk moved, while the mount is open. What
-- is read under the mount is the chunk's part of the content all the same. A chunk of saved tables is of this kind too.
use Rattle.std.specs.Prelude.{◌≡◌, ◌≤◌, ◌+◌, ℕ, Some, is_some, List}
use Rattle.std.specs.FinMap as map
use Rattle.dm_base.specs.declared.volume.Chunk.{Chunk}
use Rattle.dm_rules.specs.Label.{first_zone}
use Rattle.dm_rules.specs.Version.{has_sum}
use Rattle.dm_tables.specs.Rows.{EachRow}
use Rattle.dm_durable.specs.declared.group.VolumeRow.{VolumeRow}
use Rattle.dm_durable.specs.Tables.{ByNumber, ByName}
use Rattle.dm_model.specs.declared.state.Image.{Image}
use Rattle.dm_model.specs.declared.state.Moving.{Moving}
use Rattle.dm_model.specs.declared.state.MountState.{MountState}
use Rattle.dm_model.specs.declared.state.Origin.{Origin}
use Rattle.dm_model.specs.declared.state.Origin.TheVariants as origin
use Rattle.dm_model.specs.declared.state.Reserved.{Reserved}
use Rattle.dm_invariant.specs.Assemble.{ChunkKnown, SumRight}
use Rattle.dm_invariant.specs.Places.{ChunkCovers, HasReserving, HasTarget}

-- the chunk lies behind the label before the end of its volume, is known to be its part of the content, has a sum exactly
-- where the volume's chunks do, which is right, and no zone in hand meets it
pub record StillThere (contents : ByNumber (List ℕ)) (images : ByName Image) (reservations : ByNumber Reserved) (moves : ByNumber Moving)
    (volume : VolumeRow) (b : ℕ) (c : Chunk) : Type 0 where
  pub behind : first_zone ≤ c.place
  pub within : c.place + c.len ≤ volume.end
  pub sum : is_some c.sum ≡ has_sum volume.version
  pub bytes : List ℕ
  pub content : map.get contents b ≡ Some bytes
  pub known : ChunkKnown images bytes c
  pub right : SumRight bytes c
  pub beside_kept : (n offset place : ℕ) → ChunkCovers c c.vsn.0 place → HasReserving reservations n offset c.vsn.0 place → ⊥
  pub beside_targets : (job place : ℕ) → ChunkCovers c c.vsn.0 place → HasTarget moves job c.vsn.0 place → ⊥

-- the chunk was a live one of its volume under this epoch
pub record OnceLive (contents : ByNumber (List ℕ)) (volumes : ByName VolumeRow) (images : ByName Image) (reservations : ByNumber Reserved)
    (moves : ByNumber Moving) (epoch b : ℕ) (c : Chunk) : Type 0 where
  pub volume : VolumeRow
  pub is : map.get volumes c.vsn.0 ≡ Some volume
  pub still : volume.epoch ≡ epoch → StillThere contents images reservations moves volume b c

abbrev pub MountOnce : ByNumber (List ℕ) → ByName VolumeRow → ByName Image → ByNumber Reserved → ByNumber Moving → ℕ → Origin → Type 0
MountOnce contents volumes images reservations moves epoch (origin.New listed format) = Unit {0}
MountOnce contents volumes images reservations moves epoch (origin.Piece b index p chunk) = Unit {0}
MountOnce contents volumes images reservations moves epoch (origin.Chunk b c) = OnceLive contents volumes images reservations moves epoch b.0 c
MountOnce contents volumes images reservations moves epoch (origin.Source job b c) = OnceLive contents volumes images reservations moves epoch b.0 c
MountOnce contents volumes images reservations moves epoch (origin.Target job b total c version) = Unit {0}
MountOnce contents volumes images reservations moves epoch (origin.Reuse next_epoch version reading) = Unit {0}

-- what is kept of the chunks under mounts
abbrev pub OnceKept : ByNumber (List ℕ) → ByName VolumeRow → ByName Image → ByNumber Reserved → ByNumber Moving → ByNumber MountState → Type 0
OnceKept contents volumes images reservations moves mounts =
    EachRow mounts (λ m x. MountOnce contents volumes images reservations moves x.epoch x.origin)
