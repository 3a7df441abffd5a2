use Rattle.std.proofs.Common.{◌≡◌}
use Rattle.std.specs.FinMap.{get}
use Rattle.dm_durable.specs.Dumps.{file_dumped_if, files_dumped}
use Rattle.dm_tables.specs.Rows.{changed}
use Rattle.dm_tables.proofs.Copies.{poured}
use Rattle.dm_durable_steps.proofs.dumps.files_dumped.Given as goal

-- the files so far, with those that are left put in, are all
abbrev pub invariant-loop-path : goal.invariant-loop-path
invariant-loop-path l =
    poured (changed (λ path n. file_dumped_if (get l.inodes n.0)) l.path-iterator) l.files ≡ files_dumped l.names l.inodes
