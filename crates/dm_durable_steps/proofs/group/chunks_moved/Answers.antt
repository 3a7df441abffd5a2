use Rattle.std.proofs.Common.{◌∙◌}
use Rattle.std.proofs.lemmas.List.{drop_more}
use Rattle.dm_durable.specs.Group.{chunk_or_moved}
use Rattle.dm_durable_steps.proofs.Lists.{made_more, made_all}
use Rattle.dm_durable_steps.proofs.group.chunks_moved.Goals as goal

pub loop-chunk-preserved : goal.loop-chunk-preserved
loop-chunk-preserved c =
    made_more (chunk_or_moved c.args.to) _ _ _ _ _ _ _ c.loop-chunk.invariant (drop_more _ _ _ c.loop-chunk-test.true) c.chunk_or_moved.ensures c.in_ok-push.ensures.items

pub returns : goal.returns
returns c = c.from_vec.ensures ∙ made_all (chunk_or_moved c.args.to) _ _ _ _ c.loop-chunk.invariant c.loop-chunk-test.false
