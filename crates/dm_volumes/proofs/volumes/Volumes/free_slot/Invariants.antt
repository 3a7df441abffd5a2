use Rattle.std.proofs.Common.{◌≡◌, ◌≤◌, ◌-◌}
use Rattle.dm_durable.specs.Volumes.{free_slot}
use Rattle.dm_volumes.proofs.volumes.Volumes.free_slot.Given as goal

abbrev pub invariant-loop-slot : goal.invariant-loop-slot
invariant-loop-slot l = (l.slot ≤ 16) × (free_slot l.self.rows.rows (16 - l.slot) l.slot ≡ free_slot l.self.rows.rows 16 0)

abbrev pub decreases-loop-slot : goal.decreases-loop-slot
decreases-loop-slot l = 16 - l.slot
