use Rattle.std.proofs.Common.{◌≡◌, ℕ, drop}
use Rattle.dm_host.specs.Past.{contents}
use Rattle.dm_host.specs.Rot.{rotted}
use Rattle.dm_host.proofs.rot.rot_all.Given as goal

abbrev pub invariant-loop-entry : goal.invariant-loop-entry
invariant-loop-entry l =
    (g : ℕ) → rotted (drop l.entry-index l.entries) l.call g (contents l.files.items g) ≡ rotted l.entries l.call g (contents l.initial.files.items g)
