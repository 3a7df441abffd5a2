use Rattle.std.proofs.Common.{drop}
use Rattle.dm_group_usage.proofs.Layouts.{Placed}
use Rattle.dm_group_usage.proofs.layout.pieces_of.Given as goal

abbrev pub invariant-loop-space : goal.invariant-loop-space
invariant-loop-space l = Placed l.pieces.items (drop l.space-index l.spaces) l.spaces l.offset l.left l.len
