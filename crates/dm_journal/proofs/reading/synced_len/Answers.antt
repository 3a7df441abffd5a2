use Rattle.std.proofs.Common.{sym, ◌∙◌}
use Rattle.dm_host.specs.Disk.{Same}
use Rattle.dm_host.proofs.Moments.{same_after, fewer_after}
use Rattle.dm_journal.proofs.Outcome.{at_ok}
use Rattle.dm_journal.proofs.reading.synced_len.Goals as goal

pub returns-clause-works : goal.returns-clause-works
returns-clause-works g c = same_after Same c.args.file _ _ _ c.sync.ensures.works c.len.ensures.works

pub returns-clause-durable : goal.returns-clause-durable
returns-clause-durable g c = λ told. at_ok c.len.result (λ x left.
    c.in_ok-sync.ensures.durable told x (fewer_after c.args.file _ _ c.len.ensures.works x left) ∙ sym c.sync.ensures.same ∙ sym c.len.ensures.same)
