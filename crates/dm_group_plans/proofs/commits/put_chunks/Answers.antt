use Rattle.std.proofs.Common.{refl, ap, ◌∙◌, get_or}
use Rattle.std.proofs.lemmas.List.{drop_all}
use Rattle.dm_group_plans.specs.Found.{with_sum}
use Rattle.dm_group_usage.proofs.Lists.{drop_next, no_chunk}
use Rattle.dm_group_plans.proofs.Written.{with_on, with_end}
use Rattle.dm_group_plans.proofs.commits.put_chunks.Goals as goal

pub loop-chunk-init : goal.loop-chunk-init
loop-chunk-init c = refl

pub loop-chunk-preserved : goal.loop-chunk-preserved
loop-chunk-preserved c =
    let chunk = get_or c.args.chunks.now c.loop-chunk.chunk-index no_chunk in
    with_on c.loop-chunk.out.items c.push.new.self.items _ _ chunk c.with_sum.result c.loop-chunk.left.now c.first_sum-sum.result.1.now _ (drop_next c.args.chunks.now c.loop-chunk.chunk-index no_chunk c.loop-chunk-test.true)
    (c.with_sum.ensures ∙ ap (with_sum chunk) c.first_sum-sum.ensures.first) c.first_sum-sum.ensures.behind c.in_ok-push.ensures.items c.loop-chunk.invariant

pub returns : goal.returns
returns c = with_end c.loop-chunk.out.items _ c.loop-chunk.left.now _ (drop_all c.loop-chunk.chunk-index c.args.chunks.now c.loop-chunk-test.false) c.loop-chunk.invariant
