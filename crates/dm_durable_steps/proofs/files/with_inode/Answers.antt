use Rattle.std.proofs.Common.{ap, ◌∙◌}
use Rattle.std.specs.FinMap.{insert, get}
use Rattle.dm_durable.specs.Inodes.{bitfile_in}
use Rattle.dm_durable_steps.proofs.Freed.{freed}
use Rattle.dm_durable_steps.proofs.files.with_inode.Goals as goal

pub returns : goal.returns
returns c =
    freed c.args.tables _ (insert c.args.tables.inodes c.args.ino.0 c.args.inode) _ _ (bitfile_in (get c.args.tables.inodes c.args.ino.0))
    (c.in_ok-insert.ensures.ok ∙ ap (λ k. insert c.args.tables.inodes k c.args.inode) c.from-key.ensures)
    (c.bitfile_at-named.ensures ∙ ap (λ k. bitfile_in (get c.args.tables.inodes k)) c.from-key.ensures)
    c.in_ok-let_go_if.ensures
