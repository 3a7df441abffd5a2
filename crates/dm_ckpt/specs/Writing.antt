-- Writing an area behind its gate.
use Rattle.std.specs.Prelude.{◌≡◌, ℕ, ◌+◌, ◌<◌, List, ◌++◌, length, slice_index}
use Rattle.dm_host.specs.Disk.{Disk}
use Rattle.dm_host.specs.Works.{Works, File, Follows}
use Rattle.dm_host.specs.Disk.{Tells}
use Rattle.dm_ckpt.specs.Area.{Begins}

-- a file that has a gate keeps it
abbrev pub KeepsGate : List ℕ → List ℕ → Type 0
KeepsGate old new = 0 < length old → (0 < length new) × (slice_index new 0 ≡ slice_index old 0)

-- Only bytes behind the gate of this file were written.
pub record WritesBehind (file : ℕ) (old new : Disk) : Type 0 where
  pub works : Works (File file) old new (Follows KeepsGate file old)
  pub seen : Tells old file → KeepsGate (old.seen file) (new.seen file)

-- The bytes up to a place and those of the buffer are these, behind a gate.
pub record Gathers (d : Disk) (file place : ℕ) (buffer : List ℕ) (gate : ℕ) (bytes : List ℕ) : Type 0 where
  pub written : List ℕ
  pub begins : Begins gate written (d.seen file)
  pub reached : place ≡ 1 + length written
  pub whole : written ++ buffer ≡ bytes
