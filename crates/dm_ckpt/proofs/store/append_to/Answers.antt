use Rattle.std.proofs.Common.{ℕ, ◌+◌, [], ◌∷◌, ◌++◌, length, OnOk, OnErr, subst}
use Rattle.std.specs.Prelude.{⊤}
use Rattle.dm_host.specs.Works.{Works, File}
use Rattle.dm_journal.specs.Grammar.{BeforeOrAfter}
use Rattle.dm_journal.specs.State.{settled_at, doubtful_at, Keeps as LogKeeps, Doubts as LogDoubts}
use Rattle.dm_ckpt.specs.Files.{log_file}
use Rattle.dm_ckpt.proofs.Outcome.{so_ok, so_err, ok_under, err_under}
use Rattle.dm_ckpt.proofs.Told.{was_told}
use Rattle.dm_ckpt.proofs.Logging.{log_kept, append_moments, append_keeps, append_doubts}
use Rattle.dm_ckpt.proofs.store.append_to.Goals as goal

pub returns-clause-ok : goal.returns-clause-ok
returns-clause-ok g c = λ n ps payload k fits is.
    let i = c.args.index in
    let c' = c.args.component in
    let p = c.args.place in
    let a = g.B.Bay.disk c.args.bay.now in
    let b = g.B.Bay.disk c.add.new.bay in
    let at = c.log_number.ensures.number in
    let logged = k.lists.logged in
    let done = subst (λ (f : ℕ). LogKeeps a (settled_at f p) logged → OnOk c.add.result (LogKeeps b (settled_at f (p + (5 + length payload))) (logged ++ payload ∷ [])))
    at (λ lk. c.add.ensures.ok logged payload lk fits is) (log_kept c' i n p ps a k) in
    let w = subst (λ (f : ℕ). Works (File f) a b (λ x. ⊤)) at c.add.ensures.others in
    so_ok c.add.result done (λ lk. append_keeps c' i n p ps payload a b k w (p + (5 + length payload)) lk)

pub returns-clause-err : goal.returns-clause-err
returns-clause-err g c = λ n ps payload k fits is.
    let i = c.args.index in
    let c' = c.args.component in
    let p = c.args.place in
    let a = g.B.Bay.disk c.args.bay.now in
    let b = g.B.Bay.disk c.add.new.bay in
    let at = c.log_number.ensures.number in
    let logged = k.lists.logged in
    let done = subst (λ (f : ℕ). LogKeeps a (settled_at f p) logged → OnErr c.add.result (LogDoubts b (doubtful_at f p (length payload)) logged payload))
    at (λ lk. c.add.ensures.err logged payload lk fits is) (log_kept c' i n p ps a k) in
    let w = subst (λ (f : ℕ). Works (File f) a b (λ x. ⊤)) at c.add.ensures.others in
    so_err c.add.result done (λ ld. append_doubts c' i n p ps payload a b k w ld)

pub returns-clause-any_moment : goal.returns-clause-any_moment
returns-clause-any_moment g c = λ n ps payload k fits is.
    let i = c.args.index in
    let c' = c.args.component in
    let p = c.args.place in
    let a = g.B.Bay.disk c.args.bay.now in
    let b = g.B.Bay.disk c.add.new.bay in
    let at = c.log_number.ensures.number in
    let logged = k.lists.logged in
    append_moments c' i n p ps payload a b k
    (subst (λ (f : ℕ). LogKeeps a (settled_at f p) logged → Works (File f) a b (λ x. BeforeOrAfter logged payload (x f)))
    at (λ lk. c.add.ensures.any_moment logged payload lk fits is) (log_kept c' i n p ps a k))

pub returns-clause-stands : goal.returns-clause-stands
returns-clause-stands g c = λ payload fits is.
    let i = c.args.index in
    let c' = c.args.component in
    let p = c.args.place in
    let a = g.B.Bay.disk c.args.bay.now in
    let b = g.B.Bay.disk c.add.new.bay in
    let at = c.log_number.ensures.number in
    ok_under _ c.add.result (λ told.
    let before = c.requires.stands (was_told _ a b _ (subst (λ (f : ℕ). Works (File f) a b (λ x. ⊤)) at c.add.ensures.others) (log_file c' i) told) in
    so_ok c.add.result
    (subst (λ (f : ℕ). LogKeeps a (settled_at f p) before.0 → OnOk c.add.result (LogKeeps b (settled_at f (p + (5 + length payload))) (before.0 ++ payload ∷ [])))
    at (λ lk. c.add.ensures.ok before.0 payload lk fits is) before.1) (λ lk. (before.0 ++ payload ∷ [], lk)))

pub returns-clause-doubts : goal.returns-clause-doubts
returns-clause-doubts g c = λ payload fits is.
    let i = c.args.index in
    let c' = c.args.component in
    let p = c.args.place in
    let a = g.B.Bay.disk c.args.bay.now in
    let b = g.B.Bay.disk c.add.new.bay in
    let at = c.log_number.ensures.number in
    err_under _ c.add.result (λ told.
    let before = c.requires.stands (was_told _ a b _ (subst (λ (f : ℕ). Works (File f) a b (λ x. ⊤)) at c.add.ensures.others) (log_file c' i) told) in
    so_err c.add.result
    (subst (λ (f : ℕ). LogKeeps a (settled_at f p) before.0 → OnErr c.add.result (LogDoubts b (doubtful_at f p (length payload)) before.0 payload))
    at (λ lk. c.add.ensures.err before.0 payload lk fits is) before.1) (λ ld. (before.0, (payload, ld))))
