use Rattle.std.proofs.lemmas.List.{drop_all}
use Rattle.dm_model.specs.GroupCalls.{piece_sums}
use Rattle.dm_group_usage.proofs.Lists.{drop_next, no_piece}
use Rattle.dm_group_plans.proofs.Written.{put_on, put_end}
use Rattle.dm_group_plans.proofs.commits.all_sums.Goals as goal

pub loop-piece-preserved : goal.loop-piece-preserved
loop-piece-preserved c = put_on (piece_sums c.args.chunk c.args.bytes.now) c.loop-piece.sums.items c.put_sums.new.sums.items _ _ _ _ (drop_next c.args.pieces.now c.loop-piece.piece-index no_piece c.loop-piece-test.true) c.in_ok-put_sums.ensures c.loop-piece.invariant

pub returns : goal.returns
returns c = put_end (piece_sums c.args.chunk c.args.bytes.now) c.loop-piece.sums.items _ _ (drop_all c.loop-piece.piece-index c.args.pieces.now c.loop-piece-test.false) c.loop-piece.invariant
