-- What a disk tells, and causes of faults, along a run of calls.
use Rattle.std.proofs.Common.{◌≡◌, ℕ, Bool, IsTrue, Result, subst}
use Rattle.dm_host.specs.declared.Failed.{Failed}
use Rattle.dm_host.specs.Count.{HasCause}
use Rattle.dm_host.specs.Disk.{Disk, Image, Tells}
use Rattle.dm_host.specs.Works.{Works}

pub was_told : (mine : ℕ → Type 0) (a b : Disk) (P : Image → Type 0) → Works mine a b P → (f : ℕ) → Tells b f → Tells a f
was_told mine a b P w f is = subst (λ (told : ℕ → Bool). IsTrue (told f)) w.told is

-- a call after some that didn't fail
pub cause_after : {T : Type 0} (a b c : ℕ) (r : Result T Failed) → b ≡ a → HasCause b c r → HasCause a c r
cause_after a b c r same h = subst (λ (n : ℕ). HasCause n c r) same h
