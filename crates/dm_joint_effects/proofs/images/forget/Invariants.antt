use Rattle.std.proofs.Common.{◌≡◌}
use Rattle.dm_rules.specs.Known.{known_without_range}
use Rattle.dm_joint_effects.proofs.images.forget.Given as goal

-- the bytes up to this one are forgotten
abbrev pub invariant-loop-offset : goal.invariant-loop-offset
invariant-loop-offset l = l.known ≡ known_without_range l.place l.offset l.initial.known
