-- The state of a volume.
use Rattle.std.specs.Prelude.{ℕ, ◌-◌, nat_eq, Bool, true, false, Option, None, Some, if◌then◌else◌}
use Rattle.dm_base.specs.declared.identifier.Secs.{Secs}
use Rattle.dm_base.specs.declared.volume.VolState.{VolState}
use Rattle.dm_base.specs.declared.volume.VolState.TheVariants.{Empty, Filling, Full, Held}
use Rattle.dm_rules.specs.Label.{first_zone}

-- how many bytes zones take on a volume whose next zone stands at `tip`, those that nothing needs any more too
abbrev pub used_bytes : ℕ → ℕ
used_bytes tip = tip - first_zone

-- the state of a volume whose next zone stands at `tip`, which has this room and is held since that time, if it is
abbrev pub state_of : ℕ → ℕ → Option Secs → VolState
state_of tip room (Some since) = Held since
state_of tip room None = if nat_eq tip first_zone then Empty else if nat_eq room 0 then Full else Filling

-- whether zones were written on it since its label, and it isn't held
abbrev pub is_in_use : VolState → Bool
is_in_use Empty = false
is_in_use Filling = true
is_in_use Full = true
is_in_use (Held since) = false
