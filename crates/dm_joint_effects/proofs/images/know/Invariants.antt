use Rattle.std.proofs.Common.{◌≡◌, ◌≤◌, ◌+◌, length, drop}
use Rattle.dm_rules.specs.Known.{known_with_write}
use Rattle.dm_joint_effects.proofs.images.know.Given as goal

-- the bytes from this one on are written
abbrev pub invariant-loop-left : goal.invariant-loop-left
invariant-loop-left l = (l.left ≤ length l.bytes) × (l.known ≡ known_with_write (l.place + l.left) (drop l.left l.bytes) l.initial.known)

abbrev pub decreases-loop-left : goal.decreases-loop-left
decreases-loop-left l = l.left
