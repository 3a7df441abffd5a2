use Rattle.std.proofs.Common.{◌≡◌, ◌++◌, drop}
use Rattle.std.specs.List.{flat_map}
use Rattle.dm_model.specs.GroupCalls.{piece_sums}
use Rattle.dm_group_plans.proofs.commits.all_sums.Given as goal

abbrev pub invariant-loop-piece : goal.invariant-loop-piece
invariant-loop-piece l = l.sums.items ++ flat_map (piece_sums l.chunk l.bytes) (drop l.piece-index l.pieces) ≡ flat_map (piece_sums l.chunk l.bytes) l.pieces
