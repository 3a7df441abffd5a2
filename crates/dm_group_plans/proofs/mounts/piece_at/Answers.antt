use Rattle.std.proofs.lemmas.List.{drop_all}
use Rattle.dm_group_usage.proofs.Lists.{drop_next, no_piece}
use Rattle.dm_group_plans.proofs.Lists.{piece_on, piece_here, piece_end}
use Rattle.dm_group_plans.proofs.mounts.piece_at.Goals as goal

pub loop-piece-preserved : goal.loop-piece-preserved
loop-piece-preserved c = piece_on c.loop-piece.left _ _ _ _ (drop_next c.args.pieces.now c.loop-piece.piece-index no_piece c.loop-piece-test.true) c.if-left-eq0.false c.loop-piece.invariant

pub returns-then-left-eq0 : goal.returns-then-left-eq0
returns-then-left-eq0 c = piece_here c.loop-piece.left _ _ _ _ (drop_next c.args.pieces.now c.loop-piece.piece-index no_piece c.loop-piece-test.true) c.if-left-eq0.true c.loop-piece.invariant

pub returns : goal.returns
returns c = piece_end c.loop-piece.left _ _ (drop_all c.loop-piece.piece-index c.args.pieces.now c.loop-piece-test.false) c.loop-piece.invariant
