use Rattle.std.proofs.Common.{◌≡◌, drop}
use Rattle.dm_model.specs.GroupCalls.{are_written}
use Rattle.dm_group_plans.proofs.commits.are_written.Given as goal

abbrev pub invariant-loop-index : goal.invariant-loop-index
invariant-loop-index l = are_written l.bytes l.reserved l.written l.index (drop l.index l.reserved.pieces) ≡ are_written l.bytes l.reserved l.written 0 l.reserved.pieces
