use Rattle.std.proofs.Common.{ℕ, List, subst}
use Rattle.dm_host.specs.Disk.{Same}
use Rattle.dm_host.proofs.Moments.{same_after, still_told}
use Rattle.dm_ckpt.specs.Survey.{Says}
use Rattle.dm_ckpt.proofs.survey.sized_header.Goals as goal

pub returns-in_err-header-clause-works : goal.returns-in_err-header-clause-works
returns-in_err-header-clause-works g c = same_after Same c.args.file _ _ _ c.len.ensures.works c.read_header.ensures.works

pub returns-clause-works : goal.returns-clause-works
returns-clause-works g c = same_after Same c.args.file _ _ _ c.len.ensures.works c.read_header.ensures.works

pub returns-clause-says : goal.returns-clause-says
returns-clause-says g c = λ told.
    subst (λ (l : List ℕ). Says c.in_ok-header.header l) c.len.ensures.same
    (c.in_ok-header.ensures.says (still_told _ _ _ _ c.len.ensures.works c.args.file told))
