use Rattle.std.proofs.Common.{◌∙◌}
use Rattle.dm_durable_steps.proofs.Sets.{gathered_none, gathered_more, gathered_all}
use Rattle.dm_durable_steps.proofs.restart.bitfiles.Goals as goal

pub loop-inode-init : goal.loop-inode-init
loop-inode-init c =
    gathered_none c.args.making c.args.inodes.now _ _ c.empty-set.ensures (c.into_iter-inode-iterator.ensures.into_iter_gives ∙ c.entries-inode-items.ensures.rest)

pub loop-inode-preserved : goal.loop-inode-preserved
loop-inode-preserved c =
    gathered_more c.args.making c.args.inodes.now c.loop-inode.set c.add.new.set c.loop-inode.inode-iterator _ _ _ _ c.in-Some.ensures.steps c.named_by.ensures c.in_ok-add.ensures c.loop-inode.invariant

pub returns : goal.returns
returns c = gathered_all c.args.making c.args.inodes.now _ _ c.in-None.ensures.steps.0 c.loop-inode.invariant
