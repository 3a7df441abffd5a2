use Rattle.std.proofs.Common.{ℕ, OnErr, IfOk, subst}
use Rattle.dm_host.specs.Disk.{Same}
use Rattle.dm_host.specs.Works.{Works, File, Follows}
use Rattle.dm_journal.specs.State.{settled_at, doubtful_at, place_behind, with_landed, Keeps as LogKeeps, Doubts as LogDoubts}
use Rattle.dm_ckpt.specs.Files.{log_file}
use Rattle.dm_ckpt.proofs.Outcome.{if_ok, so_err, if_under, err_under}
use Rattle.dm_ckpt.proofs.Told.{was_told}
use Rattle.dm_ckpt.proofs.Logging.{log_doubted, heal_doubts, heal_keeps}
use Rattle.dm_ckpt.proofs.store.landed_in.Goals as goal

pub returns-clause-ok : goal.returns-clause-ok
returns-clause-ok g c = λ m ps payload k.
    let i = c.args.index in
    let c' = c.args.component in
    let p = c.args.place in
    let n = c.args.n in
    let a = g.B.Bay.disk c.args.bay.now in
    let b = g.B.Bay.disk c.look.new.bay in
    let at = c.log_number.ensures.number in
    let w = subst (λ (f : ℕ). Works (File f) a b (Follows Same f a)) at c.look.ensures.works in
    let logged = k.lists.logged in
    let done = subst (λ (f : ℕ). LogDoubts a (doubtful_at f p n) logged payload → IfOk c.look.result (λ landed. LogKeeps b (settled_at f (place_behind landed p n)) (with_landed landed logged payload)))
    at (λ ld. c.look.ensures.ok logged payload ld) (log_doubted c' i m p n ps payload a k) in
    if_ok c.look.result done (λ landed lk. heal_keeps c' i m p n ps payload a b k w landed lk)

pub returns-clause-err : goal.returns-clause-err
returns-clause-err g c = λ m ps payload k.
    let i = c.args.index in
    let c' = c.args.component in
    let p = c.args.place in
    let n = c.args.n in
    let a = g.B.Bay.disk c.args.bay.now in
    let b = g.B.Bay.disk c.look.new.bay in
    let at = c.log_number.ensures.number in
    let w = subst (λ (f : ℕ). Works (File f) a b (Follows Same f a)) at c.look.ensures.works in
    let logged = k.lists.logged in
    let done = subst (λ (f : ℕ). LogDoubts a (doubtful_at f p n) logged payload → OnErr c.look.result (LogDoubts b (doubtful_at f p n) logged payload))
    at (λ ld. c.look.ensures.err logged payload ld) (log_doubted c' i m p n ps payload a k) in
    so_err c.look.result done (λ ld. heal_doubts c' i m p n ps payload a b k w ld)

pub returns-clause-works : goal.returns-clause-works
returns-clause-works g c =
    let i = c.args.index in
    let c' = c.args.component in
    let p = c.args.place in
    let n = c.args.n in
    let a = g.B.Bay.disk c.args.bay.now in
    let b = g.B.Bay.disk c.look.new.bay in
    let at = c.log_number.ensures.number in
    let w = subst (λ (f : ℕ). Works (File f) a b (Follows Same f a)) at c.look.ensures.works in
    w

pub returns-clause-stands : goal.returns-clause-stands
returns-clause-stands g c = λ doubtful.
    let i = c.args.index in
    let c' = c.args.component in
    let p = c.args.place in
    let n = c.args.n in
    let a = g.B.Bay.disk c.args.bay.now in
    let b = g.B.Bay.disk c.look.new.bay in
    let at = c.log_number.ensures.number in
    let w = subst (λ (f : ℕ). Works (File f) a b (Follows Same f a)) at c.look.ensures.works in
    if_under _ c.look.result (λ told.
    let before = doubtful (was_told _ a b _ w (log_file c' i) told) in
    if_ok c.look.result
    (subst (λ (f : ℕ). LogDoubts a (doubtful_at f p n) before.0 before.1.0 → IfOk c.look.result (λ landed. LogKeeps b (settled_at f (place_behind landed p n)) (with_landed landed before.0 before.1.0)))
    at (λ ld. c.look.ensures.ok before.0 before.1.0 ld) before.1.1) (λ landed lk. (with_landed landed before.0 before.1.0, lk)))

pub returns-clause-doubts : goal.returns-clause-doubts
returns-clause-doubts g c = λ doubtful.
    let i = c.args.index in
    let c' = c.args.component in
    let p = c.args.place in
    let n = c.args.n in
    let a = g.B.Bay.disk c.args.bay.now in
    let b = g.B.Bay.disk c.look.new.bay in
    let at = c.log_number.ensures.number in
    let w = subst (λ (f : ℕ). Works (File f) a b (Follows Same f a)) at c.look.ensures.works in
    err_under _ c.look.result (λ told.
    let before = doubtful (was_told _ a b _ w (log_file c' i) told) in
    so_err c.look.result
    (subst (λ (f : ℕ). LogDoubts a (doubtful_at f p n) before.0 before.1.0 → OnErr c.look.result (LogDoubts b (doubtful_at f p n) before.0 before.1.0))
    at (λ ld. c.look.ensures.err before.0 before.1.0 ld) before.1.1) (λ ld. (before.0, (before.1.0, ld))))
