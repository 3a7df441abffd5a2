use Rattle.std.proofs.Common.{ap, refl, get_or}
use Rattle.std.proofs.lemmas.List.{drop_all}
use Rattle.dm_group_usage.specs.Measures.{measure_in}
use Rattle.dm_group_usage.proofs.Lists.{drop_next, no_chunk}
use Rattle.dm_group_usage.proofs.Summing.{measuring_on, summing_begin, summing_end}
use Rattle.dm_group_usage.proofs.weights.sum_in.Goals as goal

pub loop-chunk-init : goal.loop-chunk-init
loop-chunk-init c = summing_begin _ _ refl

pub loop-chunk-preserved : goal.loop-chunk-preserved
loop-chunk-preserved c =
    measuring_on c.args.more c.args.vsn.0 _ _ (get_or c.args.chunks.now c.loop-chunk.chunk-index no_chunk) c.loop-chunk.sum c.with_chunk-sum.result _ (drop_next c.args.chunks.now c.loop-chunk.chunk-index no_chunk c.loop-chunk-test.true) c.with_chunk-sum.ensures c.with_chunk-sum.type_inv c.loop-chunk.invariant

pub returns : goal.returns
returns c = summing_end c.loop-chunk.sum _ _ (ap (measure_in c.args.more c.args.vsn.0) (drop_all c.loop-chunk.chunk-index c.args.chunks.now c.loop-chunk-test.false)) c.loop-chunk.invariant
