use Rattle.dm_durable_steps.proofs.Freed.{same_ok, written}
use Rattle.dm_durable_steps.proofs.files.write.Goals as goal

pub returns : goal.returns
returns c =
    same_ok c.with_inode.result _ _
    (written c.args.tables _ c.args.path.now _ c.args.change _ c.args.bytes c.in_ok-insert.ensures.ok c.in_ok-name.ensures c.number_or-ino.ensures)
    c.with_inode.ensures
