use Rattle.std.proofs.Common.{ℕ, Option, ap, ◌∙◌}
use Rattle.std.specs.FinMap.{get, remove}
use Rattle.dm_durable.specs.declared.daemon.DaemonTables.{DaemonTables}
use Rattle.dm_durable.specs.declared.daemon.Inode.{Inode}
use Rattle.dm_base.specs.declared.identifier.Ino.{Ino}
use Rattle.dm_durable.specs.Tables.{ByNumber, ByName}
use Rattle.dm_durable.specs.Inodes.{bitfile_in}
use Rattle.dm_durable.specs.Entries.{after_letting_go_if}
use Rattle.dm_durable.specs.Daemon.{after_remove}
use Rattle.dm_durable_steps.proofs.Freed.{freed}
use Rattle.dm_durable_steps.proofs.files.remove.Goals as goal

pub returns-in_default : goal.returns-in_default
returns-in_default c = ap (after_remove c.args.tables c.args.path.now c.args.change) c.in_default.ensures

pub returns : goal.returns
returns c =
    let t : DaemonTables = record c.args.tables { change = c.args.change; names = c.remove.new.self } in
    let whole : ByNumber Inode = remove c.args.tables.inodes c.in-Some.ino.0 in
    let was : Option ℕ = bitfile_in (get c.args.tables.inodes c.in-Some.ino.0) in
    let named : ByName Ino → DaemonTables = λ m. record t { names = m; inodes = whole; entries = after_letting_go_if t.entries whole t.time.0 was } in
    freed t _ whole _ _ was
    (c.remove-2.ensures.removed ∙ ap (remove c.args.tables.inodes) c.from-key.ensures)
    (c.bitfile_at-named.ensures ∙ ap (λ k. bitfile_in (get c.args.tables.inodes k)) c.from-key.ensures)
    c.in_ok-let_go_if.ensures
    ∙ ap named (c.remove.ensures.removed ∙ ap (remove c.args.tables.names) c.bytes.ensures.text)
    ∙ ap (after_remove c.args.tables c.args.path.now c.args.change) c.in-Some.ensures
