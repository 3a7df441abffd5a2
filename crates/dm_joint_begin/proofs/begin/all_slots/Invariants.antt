use Rattle.std.proofs.Common.{◌≡◌}
use Rattle.dm_model.specs.Begin.{slots_below}
use Rattle.dm_joint_begin.proofs.begin.all_slots.Given as goal

-- the slots so far
abbrev pub invariant-loop-slot : goal.invariant-loop-slot
invariant-loop-slot l = l.slots.items ≡ slots_below l.slot
