use Rattle.std.proofs.Common.{Some, IsSome, refl, ap, sym, subst, ◌∙◌}
use Rattle.std.specs.FinMap.{get, insert, from_entries}
use Rattle.dm_tables.proofs.Orders.{paths}
use Rattle.dm_tables.proofs.Views.{get-view, insert-view, entry_at, on_some, on_none}
use Rattle.dm_tables.proofs.texts.Texts.replace.Goals as goal
use Rattle.dm_tables.proofs.texts.Texts.replace.Goals.{in-Some, in-None}

pub returns-clause-value : goal.returns-clause-value
returns-clause-value g c =
    let stands = sym (get-view paths c.self.inside.rows.entries c.args.key.now) ∙ ap (λ m. get m c.args.key.now) c.self.view_is in
    elim c.match-get_mut.branch [
      | in-Some w ↦ w.result-is ∙ ap Some w.replace.ensures.value ∙ w.in-Some.ensures.value ∙ stands
      | in-None w ↦ w.result-is ∙ w.in-None.ensures.value ∙ stands
    ]

pub returns-clause-there : goal.returns-clause-there
returns-clause-there g c =
    elim c.match-get_mut.branch [
      | in-Some w ↦
          let lent = c.get_mut.follows.lender w.replace.new.dest in
          let there : IsSome (entry_at paths c.self.inside.rows.entries c.args.key.now) = subst IsSome w.in-Some.ensures.value refl in
          let follows = (c.get_mut.follows.holds w.replace.new.dest).3 there in
          on_some _ (
          ap (λ a. from_entries a.rows.entries) w.self-inside-is
          ∙ insert-view paths c.self.inside.rows.entries lent.entries c.args.key.now w.replace.new.dest follows.0
          ∙ ap (λ m. insert m c.args.key.now w.replace.new.dest) c.self.view_is
          ∙ ap (insert c.args.self.now c.args.key.now) w.replace.ensures.after)
      | in-None w ↦ on_none _ _ w.result-is
    ]
