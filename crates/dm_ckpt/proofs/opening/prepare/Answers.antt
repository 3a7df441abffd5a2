use Rattle.dm_ckpt.proofs.Outcome.{at_ok, if_ok}
use Rattle.dm_ckpt.proofs.Settling.{unchanged_then, unchanged_told}
use Rattle.dm_ckpt.proofs.Choosing.{synced_still, chosen_before}
use Rattle.dm_ckpt.proofs.opening.prepare.Goals as goal

pub returns-clause-unchanged : goal.returns-clause-unchanged
returns-clause-unchanged g c =
    let c' = c.args.component in
    let a = g.B.Bay.disk c.args.bay.now in
    let b = g.B.Bay.disk c.sync_all.new.bay in
    let d = g.B.Bay.disk c.survey_both.new.bay in
    let u = c.sync_all.ensures.unchanged in
    let v = c.survey_both.ensures.unchanged in
    unchanged_then c' a b d u v

pub returns-clause-synced : goal.returns-clause-synced
returns-clause-synced g c = λ told.
    let c' = c.args.component in
    let a = g.B.Bay.disk c.args.bay.now in
    let b = g.B.Bay.disk c.sync_all.new.bay in
    let d = g.B.Bay.disk c.survey_both.new.bay in
    let u = c.sync_all.ensures.unchanged in
    let v = c.survey_both.ensures.unchanged in
    at_ok c.survey_both.result (synced_still c' b d v (c.in_ok-sync_all.ensures.synced told))

pub returns-clause-chosen : goal.returns-clause-chosen
returns-clause-chosen g c = λ told.
    let c' = c.args.component in
    let a = g.B.Bay.disk c.args.bay.now in
    let b = g.B.Bay.disk c.sync_all.new.bay in
    let d = g.B.Bay.disk c.survey_both.new.bay in
    let u = c.sync_all.ensures.unchanged in
    let v = c.survey_both.ensures.unchanged in
    if_ok c.survey_both.result (c.survey_both.ensures.chosen (unchanged_told c' a b u told)) (λ choice chosen. chosen_before c' a b u choice chosen)
