use Rattle.std.proofs.Common.{◌≡◌, ◌<◌, ℕ, List, length, get_or, sym, ◌∙◌, ap, arith}
use Rattle.dm_host.specs.Disk.{Same}
use Rattle.dm_host.proofs.Moments.{same_after}
use Rattle.dm_host.specs.Disk.{Tells}
use Rattle.dm_ckpt.proofs.Gates.{gate_read, shut_test}
use Rattle.dm_host.proofs.Moments.{still_told}
use Rattle.dm_ckpt.proofs.checkpoint.is_closed.Goals as goal

pub returns-in_err-read-clause-works : goal.returns-in_err-read-clause-works
returns-in_err-read-clause-works g c = same_after Same c.args.file _ _ _ c.len.ensures.works c.read.ensures.works

pub returns-clause-works : goal.returns-clause-works
returns-clause-works g c = same_after Same c.args.file _ _ _ c.len.ensures.works c.read.ensures.works

pub returns-clause-closed : goal.returns-clause-closed
returns-clause-closed g c = λ told.
    let d = g.B.Bay.disk c.args.bay.now in
    let d1 = g.B.Bay.disk c.len.new.self in
    let long : 0 < length (d.seen c.args.file) = omega (arith, c.if-len-eq0.false, c.in_ok-len.ensures.len told) in
    let told1 : Tells d1 c.args.file = still_told _ _ _ _ c.len.ensures.works c.args.file told in
    let gate : get_or c.read.new.into 0 0 ≡ get_or (d.seen c.args.file) 0 0 =
    gate_read (d1.seen c.args.file) c.read.new.into (c.in_ok-read.ensures.bytes told1) ∙ ap (λ (l : List ℕ). get_or l 0 0) c.len.ensures.same in
    let test = shut_test (get_or c.read.new.into 0 0) in
    (λ is. (long, λ e. test.0 is (gate ∙ e)), λ closed. test.1 (λ e. closed.1 (sym gate ∙ e)))

pub returns-then-len-eq0-clause-works : goal.returns-then-len-eq0-clause-works
returns-then-len-eq0-clause-works g c = same_after Same c.args.file _ _ _ c.len.ensures.works c.read.ensures.works
