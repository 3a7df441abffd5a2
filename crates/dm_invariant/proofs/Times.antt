-- Time goes on.
use Rattle.std.proofs.Common.{ℕ, ◌+◌, ◌-◌, ◌≤◌, Option, Some, None, arith}
use Rattle.dm_base.specs.declared.identifier.Secs.{Secs}
use Rattle.dm_durable.specs.Limits.{IsPast}

-- the clock of a call doesn't turn the time back
pub time_kept : (now time : ℕ) → time ≤ now + (time - now)
time_kept now time = omega arith

-- what lies in the past still does
pub still_past : (time new : ℕ) (since : Option Secs) → time ≤ new → IsPast time since → IsPast new since
still_past time new None after past = tt
still_past time new (Some t) after past = omega (arith, after, past)
