use Rattle.std.proofs.Common.{ap, ◌∙◌}
use Rattle.dm_host.specs.Past.{contents}
use Rattle.dm_host.proofs.Contents.{contents-push}
use Rattle.dm_host.proofs.files.grow_to.Goals as goal

pub loop-alloc-preserved : goal.loop-alloc-preserved
loop-alloc-preserved c =
    ap contents c.in_ok-push.ensures.items
    ∙ (λ i g. contents-push c.loop-alloc.files.items c.new.result c.new.ensures.items g i)
    ∙ c.loop-alloc.invariant
