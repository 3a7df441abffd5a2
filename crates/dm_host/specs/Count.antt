-- Counts of faults, and the cause of a failed call.
use Rattle.std.specs.Prelude.{◌≡◌, ℕ, ◌+◌, ◌≤◌, min, Result, OnOk, OnErr}
use Rattle.dm_host.specs.declared.Failed.{Failed}

-- so many faults more, up to the last value of a u64
abbrev pub raised : ℕ → ℕ → ℕ
raised faults old = min (old + faults) 18446744073709551615

-- one fault more
abbrev pub Rose : ℕ → ℕ → Type 0
Rose old new = new ≡ raised 1 old

-- A call that fails is one fault, and one that doesn't fail is none. The count never falls.
pub record HasCause {T : Type 0} (old new : ℕ) (result : Result T Failed) : Type 0 where
  pub kept : old ≤ new
  pub none : OnOk result (new ≡ old)
  pub rose : OnErr result (Rose old new)
