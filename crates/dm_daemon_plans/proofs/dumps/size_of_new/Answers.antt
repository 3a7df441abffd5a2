use Rattle.std.proofs.Common.{◌∙◌, sym}
use Rattle.std.specs.FinMap as map
use Rattle.dm_durable.specs.Dumps.{bytes_kept, file_dumped_if}
use Rattle.dm_tables.proofs.Orders.{paths}
use Rattle.dm_daemon_plans.proofs.Sums.{total_mapped}
use Rattle.dm_daemon_plans.proofs.dumps.size_of_new.Goals as goal

pub returns : goal.returns
returns c =
    let t = c.args.daemon.now.tables in
    c.total_of.ensures ∙ sym (total_mapped paths (λ n. file_dumped_if (map.get t.inodes n.0)) bytes_kept t.names)
