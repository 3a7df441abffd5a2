use Rattle.std.proofs.Common.{◌≡◌, ◌∙◌, ◌∷◌, [], ap, subst, Bool, List, Option}
use Rattle.std.specs.Prelude.{IfOk, is_some}
use Rattle.std.specs.FinMap as map
use Rattle.std.specs.List.{list_all}
use Rattle.dm_base.specs.declared.serial.Vsn.{Vsn}
use Rattle.dm_durable.specs.Volumes.{LiveChunk, is_listed}
use Rattle.dm_model.specs.declared.guard.Guard.TheVariants as guard
use Rattle.dm_model.specs.GroupCalls.{merge_first}
use Rattle.dm_model.specs.Plan.{no_needs}
use Rattle.dm_verdicts.specs.declared.verdict.Verdict.{Verdict}
use Rattle.dm_verdicts.specs.Verdict.{verdict_on}
use Rattle.dm_group_plans.proofs.merges.merge_next.Goals as goal

pub returns-clause-verdict : goal.returns-clause-verdict
returns-clause-verdict c =
    let group = c.args.library.now in
    let t = c.args.tokens in
    let whole : List Vsn → Option LiveChunk → Bool → Bool → Verdict = λ merged first listed there.
    verdict_on (record (merge_first c.args.id group merged t.job t.from t.to first) { own = (listed, guard.SourceListed) ∷ (there, guard.SourceListed) ∷ [] }) no_needs in
    let m = c.as_slice-merged.ensures in
    let listed = c.is_listed.ensures ∙ ap (λ (l : List Vsn). is_listed l c.args.source.0) m in
    let there = c.are_there-there.ensures ∙ ap (λ (l : List Vsn). list_all (λ v. is_some (map.get group.tables.volumes v.0)) l) m in
    let first = c.first_on-first.ensures in
    subst (λ z. IfOk c.merge_first.result (λ v. v ≡ z)) (λ i. whole (m i) (first i) (listed i) (there i)) c.merge_first.ensures.verdict
