use Rattle.std.proofs.Common.{◌+◌, ap, ◌∙◌}
use Rattle.dm_durable.specs.Inodes.{as_making, with_contents}
use Rattle.dm_durable.specs.Entries.{new_entry}
use Rattle.dm_tables.specs.Rows.{adjust}
use Rattle.dm_daemon_tables.specs.Tables.{state_of}
use Rattle.dm_daemon_tables.proofs.Begun.{begun, narrow_min, with_length}
use Rattle.dm_daemon_tables.proofs.tables.Tables.begin_put_of.Goals as goal

pub returns : goal.returns
returns c =
    begun (state_of c.args.self.now) c.args.bfid c.args.groups.now c.args.ino.0 c.in-Some.inode.now c.saturating_add-self.result _ c.begin_put.new.self.rows.rows c.let_go_if.new.entries.rows c.insert_reserved.new.self.rows _ _
    c.in-Some.ensures
    (c.saturating_add-self.ensures ∙ narrow_min (c.args.self.now.counter + 1))
    (c.begin_put.ensures.rows ∙ ap (λ k. adjust k.rows c.args.ino.0 (with_contents (as_making c.args.bfid))) c.know.ensures.rows)
    c.bitfile-named.ensures
    c.let_go_if.ensures.rows
    c.enter.ensures.key
    (c.enter.ensures.entry ∙ ap (with_length c.length_online.result) c.requires.fresh ∙ ap (λ n. new_entry n c.args.groups.now) c.length_online.ensures)
    c.insert_reserved.ensures.rows
