use Rattle.std.proofs.Common.{◌≡◌, ◌∙◌, ◌∷◌, [], ap, subst}
use Rattle.std.specs.Prelude.{IfOk}
use Rattle.dm_durable.specs.Volumes.{greatest_room}
use Rattle.dm_group_usage.specs.Found.{live_chunk_of}
use Rattle.dm_group_plans.proofs.Merging.{having_is}
use Rattle.dm_group_usage.proofs.Ranges.{target_out}
use Rattle.dm_model.specs.GroupCalls.{merge_to}
use Rattle.dm_model.specs.Plan.{Plan, no_needs}
use Rattle.dm_rules.specs.Merge.{destination}
use Rattle.dm_verdicts.specs.Verdict.{verdict_on}
use Rattle.dm_group_plans.proofs.merges.merge_live.Goals as goal

pub returns-clause-verdict : goal.returns-clause-verdict
returns-clause-verdict c =
    let group = c.args.library.now in
    let l = live_chunk_of c.args.live in
    let t = c.args.tokens in
    let spaces = c.in_ok-spaces.ensures in
    let plan = having_is c.args.id group c.args.merged.now l t.job t.from t.to c.destination-space.result c.greatest_room-have.result c.greatest_room-have.type_inv (c.greatest_room-have.ensures ∙ ap greatest_room (c.as_slice-2.ensures ∙ spaces))
    ∙ ap (λ s. merge_to c.args.id group c.args.merged.now l t.job t.from t.to s) (c.destination-space.ensures ∙ ap (destination l.chunk.len) (c.as_slice.ensures ∙ spaces)) in
    subst (λ z. IfOk c.merge_to.result (λ v. v ≡ z)) (ap (λ (p : Plan). verdict_on (record p { own = c.args.own.0 ∷ c.args.own.1 ∷ [] }) no_needs) plan) c.merge_to.ensures.verdict

pub returns-clause-range : goal.returns-clause-range
returns-clause-range c = λ error within.
    let len = c.args.live.chunk.len in
    target_out c.args.library.now c.args.merged.now len c.destination-space.result (c.destination-space.ensures ∙ ap (destination len) (c.as_slice.ensures ∙ c.in_ok-spaces.ensures)) (c.merge_to.ensures.range error) within
