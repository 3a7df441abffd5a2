use Rattle.std.proofs.Common.{◌≡◌, ◌++◌, replicate}
use Rattle.dm_reply.proofs.piece.push_filler.Given as goal

abbrev pub invariant-loop : goal.invariant-loop
invariant-loop g l = l.piece.items ≡ l.fn.piece.items ++ replicate l.counter l.filler
