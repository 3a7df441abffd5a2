use Rattle.std.proofs.Common.{◌≡◌, ◌-◌}
use Rattle.dm_durable.specs.Volumes.{free_slot}
use Rattle.dm_group_plans.proofs.new_volumes.free_slot.Given as goal

abbrev pub invariant-loop-slot : goal.invariant-loop-slot
invariant-loop-slot l = free_slot l.volumes (16 - l.slot) l.slot ≡ free_slot l.volumes 16 0
