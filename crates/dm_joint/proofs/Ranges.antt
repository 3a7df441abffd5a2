-- The groups of a joint state that is in range.
use Rattle.std.proofs.Common.{◌≡◌, ℕ, Option, None, Some, sym}
use Rattle.std.specs.FinMap.{get}
use Rattle.dm_group_usage.specs.Range.{IsSideInRange}
use Rattle.dm_joint.specs.Range.{IsInRange}
use Rattle.dm_model.specs.declared.state.Joint.{Joint}
use Rattle.dm_model.specs.declared.state.Side.{Side}

pub side_in_range : (j : Joint) (g : ℕ) (side : Option Side) → side ≡ get j.sides g → IsInRange j → IsSideInRange side
side_in_range j g None is within = tt
side_in_range j g (Some side) is within = within.sides g side (sym is)
