use Rattle.std.proofs.Common.{◌≡◌, ◌++◌, Some}
use Rattle.std.specs.FinMap.{entries}
use Rattle.std.specs.List.{AllByRecursion, flat_map}
use Rattle.dm_base.specs.Naming.{IsPath}
use Rattle.dm_model.specs.Files.{row_if, file_named, all_rows}
use Rattle.dm_daemon_plans.proofs.files.all_rows.Given as goal

-- the rows, with those of the names that are left, are all; and where all names are paths, so are those that are left
abbrev pub invariant-loop-path : goal.invariant-loop-path
invariant-loop-path l = record {
  told : l.rows.items ++ flat_map (λ e. row_if l.daemon.requests e.0 (file_named l.daemon.tables.inodes (Some e.1))) l.path-iterator ≡ all_rows l.daemon;
  paths : AllByRecursion (λ e. IsPath e.0) (entries l.daemon.tables.names) → AllByRecursion (λ e. IsPath e.0) l.path-iterator;
}
