use Rattle.std.proofs.Common.{◌∙◌, sym}
use Rattle.std.specs.FinMap as map
use Rattle.dm_durable.specs.Dumps.{file_dumped_if}
use Rattle.dm_tables.proofs.Orders.{paths}
use Rattle.dm_daemon_plans.proofs.Sums.{len_mapped}
use Rattle.dm_daemon_plans.proofs.dumps.files_of_new.Goals as goal

pub returns : goal.returns
returns c =
    let t = c.args.daemon.now.tables in
    c.len.ensures.len ∙ sym (len_mapped paths (λ n. file_dumped_if (map.get t.inodes n.0)) t.names)
