use Rattle.std.proofs.Common.{◌≡◌, drop}
use Rattle.dm_model.specs.GroupCalls.{piece_at}
use Rattle.dm_group_plans.proofs.mounts.piece_at.Given as goal

abbrev pub invariant-loop-piece : goal.invariant-loop-piece
invariant-loop-piece l = piece_at l.left (drop l.piece-index l.pieces) ≡ piece_at l.place l.pieces
