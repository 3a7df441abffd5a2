use Rattle.std.proofs.Common.{ap, ◌∙◌, ◌+◌}
use Rattle.std.specs.FinMap.{get}
use Rattle.dm_durable.specs.Entries.{new_entry}
use Rattle.dm_durable_steps.proofs.Begun.{begun}
use Rattle.dm_durable_steps.proofs.Ends.{word_min}
use Rattle.dm_durable_steps.proofs.puts.begin_put_of.Goals as goal

pub returns : goal.returns
returns c =
    begun c.args.tables c.args.bfid c.args.groups.now c.args.ino.0 c.from-key.result c.in-Some.inode.now c.saturating_add.result c.edit.new.self c.let_go_if.new.entries c.insert.new.self _ c.in_ok-entry.entry
    (c.in-Some.ensures ∙ ap (get c.args.tables.inodes) c.from-key.ensures)
    (c.saturating_add.ensures ∙ word_min (c.args.tables.counter + 1))
    c.from-key.ensures
    c.in_ok-edit.ensures
    c.bitfile-named.ensures
    c.in_ok-let_go_if.ensures
    (c.in_ok-entry.ensures ∙ ap (λ n. new_entry n c.args.groups.now) c.length_online.ensures)
    c.in_ok-insert.ensures.ok
