-- A chunk that was live when its volume had an epoch.
use Rattle.std.specs.Prelude.{◌≡◌, ◌≤◌, ℕ, Some, List}
use Rattle.std.specs.FinMap as map
use Rattle.dm_base.specs.declared.volume.Chunk.{Chunk}
use Rattle.dm_tables.specs.Rows.{EachRow}
use Rattle.dm_durable.specs.declared.group.VolumeRow.{VolumeRow}
use Rattle.dm_durable.specs.Tables.{ByNumber, ByName}
use Rattle.dm_model.specs.declared.state.Image.{Image}
use Rattle.dm_model.specs.declared.state.Joint.{Joint}
use Rattle.dm_model.specs.declared.state.Moving.{Moving}
use Rattle.dm_model.specs.declared.state.Reserved.{Reserved}
use Rattle.dm_invariant.specs.OnceLive.{StillThere}

-- its volume is of the tables, with that epoch or a later one; as long as it has that epoch, the chunk is still there: its bytes
-- are known, its sum is right, and no zone in hand meets it
pub record WasLive (contents : ByNumber (List ℕ)) (volumes : ByName VolumeRow) (images : ByName Image) (reservations : ByNumber Reserved)
    (moves : ByNumber Moving) (epoch b : ℕ) (c : Chunk) : Type 0 where
  pub volume : VolumeRow
  pub is : map.get volumes c.vsn.0 ≡ Some volume
  pub reached : epoch ≤ volume.epoch
  pub still : volume.epoch ≡ epoch → StillThere contents images reservations moves volume b c

-- so it is of a group, in this state
abbrev pub WasLiveIn : Joint → ℕ → ℕ → ℕ → Chunk → Type 0
WasLiveIn j g epoch b c =
    EachRow j.sides (λ h s. h ≡ g
    → WasLive j.history.contents s.group.tables.volumes s.images s.group.reservations s.group.moves epoch b c)
