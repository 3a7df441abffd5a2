use Rattle.std.proofs.Common.{◌∙◌, ◌+◌, ap}
use Rattle.dm_durable.specs.Daemon.{size_of_dumps}
use Rattle.dm_daemon_plans.specs.Found.{summed}
use Rattle.dm_daemon_plans.proofs.Sums.{summed_add}
use Rattle.dm_daemon_plans.proofs.sizes.size_of.Goals as goal

pub returns : goal.returns
returns c =
    let dumps = size_of_dumps c.args.tables.now.dumps in
    summed_add c.total-files.result dumps c.size_of_dumps.result c.saturating_add.result c.size_of_dumps.ensures c.saturating_add.ensures
    ∙ ap (λ f. summed (f + dumps)) c.total-files.ensures
