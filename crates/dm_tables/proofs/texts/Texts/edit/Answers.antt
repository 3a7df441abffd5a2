use Rattle.std.proofs.Common.{IsSome, refl, ap, sym, subst, ◌∙◌, OnOk, Result, Ok, Err}
use Rattle.std.proofs.lemmas.Result.{on_ok_weaker}
use Rattle.std.specs.FinMap.{get, insert, from_entries}
use Rattle.dm_tables.proofs.Orders.{paths}
use Rattle.dm_tables.proofs.Adjusted.{adjust-there, adjust-none}
use Rattle.dm_tables.proofs.Views.{get-view, insert-view, entry_at}
use Rattle.dm_tables.proofs.texts.Texts.edit.Goals as goal
use Rattle.dm_tables.proofs.texts.Texts.edit.Goals.{in-Some, in-None}

held : {X E P : Type 0} (r : Result X E) → P → OnOk r P
held (Ok x) p = p
held (Err e) p = tt

pub returns : goal.returns
returns g c =
    let f = g.E.TryEdit.edited c.args.edit.now in
    let stands = sym (get-view paths c.self.inside.rows.entries c.args.key.now) ∙ ap (λ m. get m c.args.key.now) c.self.view_is in
    elim c.match-get_mut.branch [
      | in-Some w ↦
          let row = w.try_edit.new.row in
          let lent = c.get_mut.follows.lender row in
          let there : IsSome (entry_at paths c.self.inside.rows.entries c.args.key.now) = subst IsSome w.in-Some.ensures.value refl in
          let follows = (c.get_mut.follows.holds row).3 there in
          subst (λ r. OnOk r _) (sym w.result-is) (
          on_ok_weaker w.try_edit.result (λ same.
          ap (λ a. from_entries a.rows.entries) w.self-inside-is
          ∙ insert-view paths c.self.inside.rows.entries lent.entries c.args.key.now row follows.0
          ∙ ap (λ m. insert m c.args.key.now row) c.self.view_is
          ∙ ap (insert c.args.self.now c.args.key.now) same
          ∙ sym (adjust-there c.args.self.now c.args.key.now f _ (sym (w.in-Some.ensures.value ∙ stands))))
          w.try_edit.ensures)
      | in-None w ↦
          held c.match-get_mut.result (
          ap (λ a. from_entries a.rows.entries) w.self-inside-is
          ∙ ap (λ m. from_entries m.entries) c.get_mut.follows.holds-at-none
          ∙ c.self.view_is
          ∙ sym (adjust-none c.args.self.now c.args.key.now f (sym (w.in-None.ensures.value ∙ stands))))
    ]
