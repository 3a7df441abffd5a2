use Rattle.std.proofs.Common.{ℕ, List, IfOk, sym, ◌∙◌, subst}
use Rattle.dm_host.specs.Disk.{Same}
use Rattle.dm_host.proofs.Moments.{same_after, fewer_after}
use Rattle.dm_ckpt.specs.Survey.{Says}
use Rattle.dm_ckpt.proofs.Outcome.{at_ok}
use Rattle.dm_host.proofs.Moments.{still_told}
use Rattle.dm_ckpt.proofs.survey.synced_header.Goals as goal

pub returns-clause-says : goal.returns-clause-says
returns-clause-says g c = λ told.
    let f = c.args.file in
    let d0 = g.B.Bay.disk c.args.bay.now in
    let d1 = g.B.Bay.disk c.sync.new.self in
    subst (λ (l : List ℕ). IfOk c.read_header.result (λ h. Says h l)) c.sync.ensures.same
    (c.read_header.ensures.says (still_told _ d0 d1 _ c.sync.ensures.works f told))

pub returns-clause-durable : goal.returns-clause-durable
returns-clause-durable g c = λ told.
    at_ok c.read_header.result (λ x left.
    c.in_ok-sync.ensures.durable told x (fewer_after c.args.file _ _ c.read_header.ensures.works x left) ∙ sym c.sync.ensures.same ∙ sym c.read_header.ensures.same)

pub returns-clause-works : goal.returns-clause-works
returns-clause-works g c = same_after Same c.args.file _ _ _ c.sync.ensures.works c.read_header.ensures.works
