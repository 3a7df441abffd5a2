use Rattle.std.proofs.Common.{◌≡◌, ◌++◌, ℕ, map, refl, sym, ap, ◌∙◌, subst, append-nil}
use Rattle.std.proofs.lemmas.List.{take_all}
use Rattle.dm_spine.specs.Passes.{seen_by}
use Rattle.shared_tally.specs.Tallies.{IsFull}
use Rattle.shared_tally.specs.Runs.{entries_by, entries_of}
use Rattle.shared_tally.specs.declared.counting.Added.{Added}
use Rattle.shared_tally.proofs.Sessions.{entries_step, entries_few, on_err}
use Rattle.shared_tally.proofs.session.Session.add_all.Goals as goal

pub loop-amount-init : goal.loop-amount-init
loop-amount-init g c = let me = c.args.self.now in (refl, refl, sym (append-nil (entries_by me.worker (seen_by me.pass))))

pub loop-amount-preserved : goal.loop-amount-preserved
loop-amount-preserved g c =
    let me = c.args.self.now in
    let l = c.loop-amount.self in
    let kept = c.loop-amount.invariant in (
      c.add.ensures.same.0 ∙ kept.0,
      c.add.ensures.same.1 ∙ kept.1,
      entries_step me.worker me.lock.now.table.shared.key.number l.worker l.lock.now.table.shared.key.number (entries_by me.worker (seen_by me.pass)) (seen_by l.pass) (seen_by c.add.new.self.pass) c.loop-amount.amount-index c.in_ok-add.field-0 c.args.amounts.now kept.0 (ap (λ t. t.table.shared.key.number) kept.1) c.in_ok-add.ensures.added kept.2 c.loop-amount-test.true,
    )

pub returns-clause-added : goal.returns-clause-added
returns-clause-added g c =
    let me = c.args.self.now in
    let number = me.lock.now.table.shared.key.number in
    c.loop-amount.invariant.2 ∙ ap (λ xs. entries_by me.worker (seen_by me.pass) ++ entries_of me.worker number xs) (take_all c.loop-amount.amount-index c.args.amounts.now c.loop-amount-test.false)

pub returns-in_err-add-clause-same : goal.returns-in_err-add-clause-same
returns-in_err-add-clause-same g c = (c.add.ensures.same.0 ∙ c.loop-amount.invariant.0, c.add.ensures.same.1 ∙ c.loop-amount.invariant.1)

pub returns-in_err-add-clause-full : goal.returns-in_err-add-clause-full
returns-in_err-add-clause-full g c =
    let F : ℕ → Type 0 = λ n. IsFull n (seen_by c.add.new.self.pass) in
    on_err c.from_residual.result (subst F (ap (λ t. t.table.shared.key.number) c.loop-amount.invariant.1) c.in_err-add.ensures.added.0)

pub returns-clause-few : goal.returns-clause-few
returns-clause-few g c =
    let me = c.args.self.now in
    entries_few me.worker me.lock.now.table.shared.key.number c.loop-amount.amount-index c.args.amounts.now (seen_by me.pass) (seen_by c.loop-amount.self.pass) c.loop-amount.invariant.2 c.loop-amount.auto.amount-index-end

pub returns-in_err-add-clause-few : goal.returns-in_err-add-clause-few
returns-in_err-add-clause-few g c =
    let me = c.args.self.now in
    let l = c.loop-amount.self in
    let E : ℕ → Type 0 = λ w. entries_by w (seen_by c.add.new.self.pass) ≡ entries_by w (seen_by l.pass) in
    let same : entries_by me.worker (seen_by c.add.new.self.pass) ≡ entries_by me.worker (seen_by l.pass) = subst E c.loop-amount.invariant.0 (ap (λ xs. map (λ (a : ℕ × Added). a.1) xs) c.in_err-add.ensures.added.1) in
    entries_few me.worker me.lock.now.table.shared.key.number c.loop-amount.amount-index c.args.amounts.now (seen_by me.pass) (seen_by c.add.new.self.pass) (same ∙ c.loop-amount.invariant.2) c.loop-amount.auto.amount-index-end
