use Rattle.std.proofs.Common.{List, ℕ, ap, ◌∙◌}
use Rattle.std.specs.FinMap.{get}
use Rattle.dm_base.specs.declared.identifier.Ino.{Ino}
use Rattle.dm_durable.specs.declared.daemon.DumpInode.{DumpInode}
use Rattle.dm_durable.specs.Dumps.{file_dumped_if}
use Rattle.dm_tables.specs.Rows.{changed}
use Rattle.dm_tables.proofs.Orders.{paths}
use Rattle.dm_tables.proofs.Copies.{poured_end}
use Rattle.dm_durable_steps.proofs.Made.{made_whole, made_on}
use Rattle.dm_durable_steps.proofs.dumps.files_dumped.Goals as goal

pub loop-path-init : goal.loop-path-init
loop-path-init c =
    made_whole paths (λ path n. file_dumped_if (get c.args.inodes.now n.0)) _ _ _ c.empty-files.ensures (c.into_iter-path-iterator.ensures.into_iter_gives ∙ c.entries-path-items.ensures.rest)

pub loop-path-preserved : goal.loop-path-preserved
loop-path-preserved c =
    made_on (λ path n. file_dumped_if (get c.args.inodes.now n.0)) _ _ _ _ _ _ _ _ _ c.in-Some.ensures.steps c.in_ok-insert.ensures.ok c.in_ok-copied.ensures c.in_ok-file.ensures c.loop-path.invariant

pub returns : goal.returns
returns c =
    let made : List ℕ → Ino → DumpInode = λ path n. file_dumped_if (get c.args.inodes.now n.0) in
    poured_end (changed made c.loop-path.path-iterator) _ _ (ap (changed made) c.in-None.ensures.steps.0) c.loop-path.invariant
