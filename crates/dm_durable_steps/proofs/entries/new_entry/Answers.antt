use Rattle.std.proofs.Common.{List, None, false, refl, ap, ◌∙◌}
use Rattle.std.proofs.lemmas.List.{drop_more}
use Rattle.dm_base.specs.declared.identifier.GroupId.{GroupId}
use Rattle.dm_durable.specs.declared.daemon.AskedCopy.{AskedCopy}
use Rattle.dm_durable.specs.declared.daemon.Entry.{Entry}
use Rattle.dm_durable_steps.proofs.Lists.{made_more, made_all}
use Rattle.dm_durable_steps.proofs.entries.new_entry.Goals as goal

abbrev asking : GroupId → AskedCopy
asking g = record { group = g; stored = false }

pub loop-group-preserved : goal.loop-group-preserved
loop-group-preserved c =
    made_more asking _ _ _ _ _ _ _ c.loop-group.invariant (drop_more _ _ _ c.loop-group-test.true) refl c.in_ok-push.ensures.items

pub returns : goal.returns
returns c =
    let with : List AskedCopy → Entry = λ l. record { len = c.args.len; copies = l; gone = None; dropping = false } in
    ap with (c.from_vec.ensures ∙ made_all asking _ _ _ _ c.loop-group.invariant c.loop-group-test.false)
