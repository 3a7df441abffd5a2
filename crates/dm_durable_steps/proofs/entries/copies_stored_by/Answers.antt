use Rattle.std.proofs.Common.{◌∙◌}
use Rattle.std.proofs.lemmas.List.{drop_more}
use Rattle.dm_durable.specs.Entries.{copy_stored_by}
use Rattle.dm_durable_steps.proofs.Lists.{made_more, made_all}
use Rattle.dm_durable_steps.proofs.entries.copies_stored_by.Goals as goal

pub loop-copy-preserved : goal.loop-copy-preserved
loop-copy-preserved c =
    made_more (copy_stored_by c.args.group.0) _ _ _ _ _ _ _ c.loop-copy.invariant (drop_more _ _ _ c.loop-copy-test.true) c.stored_by.ensures c.in_ok-push.ensures.items

pub returns : goal.returns
returns c = c.from_vec.ensures ∙ made_all (copy_stored_by c.args.group.0) _ _ _ _ c.loop-copy.invariant c.loop-copy-test.false
