use Rattle.std.proofs.Common.{ℕ, true, filter, refl, ap, ◌∙◌, append-nil}
use Rattle.dm_spine.specs.Passes.{kept_by}
use Rattle.dm_spine.specs.declared.rule.View.{View}
use Rattle.dm_spine.proofs.Lists.{filter_all}
use Rattle.dm_spine.proofs.tests.add.Goals as goal

pub returns-clause-keeps : goal.returns-clause-keeps
returns-clause-keeps c =
    let old = kept_by c.args.pass.now in
    ap (λ (v : View ℕ ℕ). v.keeps) c.draw.ensures.drawn.after ∙ append-nil (filter (λ (x : ℕ). true) old) ∙ filter_all (λ (x : ℕ). true) old (λ a t. refl)
