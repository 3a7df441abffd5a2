-- Numbers of a group's tokens rise.
use Rattle.std.specs.Prelude.{◌≡◌, ◌≤◌, ◌<◌, ℕ, None}
use Rattle.std.specs.FinMap as map
use Rattle.dm_tables.specs.Rows.{EachRow}
use Rattle.dm_durable.specs.Tables.{ByNumber}
use Rattle.dm_model.specs.declared.state.Group.{Group}

-- the next number is none that was before it; and a token that wasn't open has a number that is the next one before it or a later one,
-- and is before the next one after it
pub record NumbersRise {X : Type 0} (before after : ByNumber X) (next_before next_after : ℕ) : Type 0 where
  pub next : next_before ≤ next_after
  pub made : EachRow after (λ n x. map.get before n ≡ None → (next_before ≤ n) × (n < next_after))

-- so it is of reservations, mounts and moves
pub record TokensRise (before after : Group) : Type 0 where
  pub reservations : NumbersRise before.reservations after.reservations before.next_reservation after.next_reservation
  pub mounts : NumbersRise before.mounts after.mounts before.next_mount after.next_mount
  pub moves : NumbersRise before.moves after.moves before.next_move after.next_move
