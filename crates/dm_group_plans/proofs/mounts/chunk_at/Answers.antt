use Rattle.std.proofs.lemmas.List.{drop_all}
use Rattle.dm_group_usage.proofs.Lists.{drop_next, no_chunk}
use Rattle.dm_group_plans.proofs.Lists.{chunk_on, chunk_here, chunk_end}
use Rattle.dm_group_plans.proofs.mounts.chunk_at.Goals as goal

pub loop-chunk-preserved : goal.loop-chunk-preserved
loop-chunk-preserved c = chunk_on c.args.offset _ _ _ _ (drop_next c.args.chunks.now c.loop-chunk.chunk-index no_chunk c.loop-chunk-test.true) c.if-chunk-offset.false c.loop-chunk.invariant

pub returns-then-chunk-offset : goal.returns-then-chunk-offset
returns-then-chunk-offset c = chunk_here c.args.offset _ _ _ _ (drop_next c.args.chunks.now c.loop-chunk.chunk-index no_chunk c.loop-chunk-test.true) c.if-chunk-offset.true c.loop-chunk.invariant

pub returns : goal.returns
returns c = chunk_end c.args.offset _ _ (drop_all c.loop-chunk.chunk-index c.args.chunks.now c.loop-chunk-test.false) c.loop-chunk.invariant
