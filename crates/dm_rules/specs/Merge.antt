-- Which volumes are merged, where their chunks go, and when a volume is freed and used again.
use Rattle.std.specs.Prelude.{ℕ, ◌*◌, ◌-◌, nat_eq, nat_le, nat_lt, Bool, false, not, ◌&&◌, Option, None, Some, List, sum_by, find}
use Rattle.dm_base.specs.declared.volume.Chunk.{Chunk}
use Rattle.dm_base.specs.declared.volume.VolState.{VolState}
use Rattle.dm_base.specs.declared.volume.VolState.TheVariants.{Empty, Filling, Full, Held}
use Rattle.dm_rules.specs.declared.space.Space.{Space}
use Rattle.dm_rules.specs.Numbers.{last_u64}
use Rattle.dm_rules.specs.State.{is_in_use, used_bytes}
use Rattle.dm_rules.specs.Version.{first_version, second_version}
use Rattle.dm_rules.specs.Zone.{weight}

-- what the chunks of a volume weigh together
abbrev pub weights : ℕ → List Chunk → ℕ
weights version chunks = sum_by (λ c. weight version c.len) chunks

-- whether what is live on a volume weighs less than this percentage of what its zones take
abbrev pub is_below : ℕ → ℕ → ℕ → Bool
is_below threshold weighs tip = nat_lt (100 * weighs) (threshold * used_bytes tip)

-- whether a volume is to be merged: by its state, what its live chunks weigh, whether it has a reservation, and whether
-- it is mounted
abbrev pub is_sparse : ℕ → VolState → ℕ → ℕ → Bool → Bool → Bool
is_sparse threshold state weighs tip reserved mounted =
    is_in_use state && not reserved && not mounted && is_below threshold weighs tip

-- whether a volume can be freed: by its state, and whether it has a live chunk, has a reservation and is mounted
abbrev pub is_freeable : VolState → Bool → Bool → Bool → Bool
is_freeable state live reserved mounted = is_in_use state && not live && not reserved && not mounted

-- whether the state of a volume lets it be used again: it was held for `hold` seconds, or it is empty and gets the
-- group's format, which has sums
abbrev pub is_ready : ℕ → ℕ → ℕ → ℕ → VolState → Bool
is_ready now hold format version (Held since) = nat_le hold (now - since.0)
is_ready now hold format version Empty = nat_eq version first_version && nat_eq format second_version
is_ready now hold format version Filling = false
is_ready now hold format version Full = false

-- whether a volume can be used again: also by its epoch, after which there is a next, and whether it is mounted
abbrev pub is_reusable : ℕ → ℕ → ℕ → ℕ → VolState → ℕ → Bool → Bool
is_reusable now hold format version state epoch mounted =
    is_ready now hold format version state && nat_lt epoch last_u64 && not mounted

-- the first of these volumes that has this version and room for so many bytes
abbrev pub first_with_room : ℕ → ℕ → List Space → Option Space
first_with_room version len spaces = find (λ s. nat_eq s.version version && nat_le len s.room) spaces

abbrev pub or_else : Option Space → Option Space → Option Space
or_else (Some space) other = Some space
or_else None other = other

-- where a chunk of so many bytes goes, of these volumes: one whose chunks have sums first
abbrev pub destination : ℕ → List Space → Option Space
destination len spaces = or_else (first_with_room second_version len spaces) (first_with_room first_version len spaces)
