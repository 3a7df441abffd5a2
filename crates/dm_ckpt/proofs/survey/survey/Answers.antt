use Rattle.std.proofs.Common.{◌+◌, ◌-◌, ◌≤◌, ◌↔◌, ℕ, List, IsTrue, length, drop, sym, subst, arith}
use Rattle.dm_host.specs.Disk.{Same}
use Rattle.dm_host.proofs.Moments.{same_after, still_told}
use Rattle.dm_ckpt.specs.Area.{BeginsWithRows}
use Rattle.dm_ckpt.proofs.Headers.{survey_shut, survey_cut, survey_wrong, survey_holds}
use Rattle.dm_ckpt.proofs.Outcome.{refuted}
use Rattle.dm_ckpt.proofs.survey.survey.Goals as goal

pub returns-then-not-has_area-clause-found : goal.returns-then-not-has_area-clause-found
returns-then-not-has_area-clause-found g c = λ told.
    let f = c.args.file in
    let a = g.B.Bay.disk c.args.bay.now in
    let b = g.B.Bay.disk c.sized_header.new.bay in
    let len = c.in_ok-len.len in
    let h = c.in_ok-len.header in
    let size = c.in_ok-len.ensures.size told in
    let says = c.in_ok-len.ensures.says told in
    survey_shut (a.seen f) len h.gate h.generation h.size size (omega arith) (omega arith) says (refuted c.has_area.result c.if-not-has_area.true c.has_area.ensures)

pub returns-then-not-has_body-clause-found : goal.returns-then-not-has_body-clause-found
returns-then-not-has_body-clause-found g c = λ told.
    let f = c.args.file in
    let a = g.B.Bay.disk c.args.bay.now in
    let b = g.B.Bay.disk c.sized_header.new.bay in
    let len = c.in_ok-len.len in
    let h = c.in_ok-len.header in
    let size = c.in_ok-len.ensures.size told in
    let says = c.in_ok-len.ensures.says told in
    survey_cut (a.seen f) len h.gate h.generation h.size size (omega arith) (omega arith) says (c.has_area.ensures.0 c.if-not-has_area.false)
    (refuted c.has_body.result c.if-not-has_body.true c.has_body.ensures)

pub returns-then-not-branch-clause-found : goal.returns-then-not-branch-clause-found
returns-then-not-branch-clause-found g c = λ told.
    let f = c.args.file in
    let a = g.B.Bay.disk c.args.bay.now in
    let b = g.B.Bay.disk c.sized_header.new.bay in
    let len = c.in_ok-len.len in
    let h = c.in_ok-len.header in
    let size = c.in_ok-len.ensures.size told in
    let says = c.in_ok-len.ensures.says told in
    let told1 = still_told _ a b _ c.sized_header.ensures.works f told in
    let area = c.has_area.ensures.0 c.if-not-has_area.false in
    let body = c.has_body.ensures.0 c.if-not-has_body.false in
    let within : 17 + h.size ≤ length (b.seen f) = subst (λ (l : List ℕ). 17 + h.size ≤ length l) (sym c.sized_header.ensures.same) (omega (arith, body, size)) in
    let test : IsTrue c.in_ok-are_rows.field-0 ↔ BeginsWithRows (17 + h.size - 17) (drop 17 (a.seen f)) =
    subst (λ (l : List ℕ). IsTrue c.in_ok-are_rows.field-0 ↔ BeginsWithRows (17 + h.size - 17) (drop 17 l)) c.sized_header.ensures.same (c.in_ok-are_rows.ensures.told told1 within) in
    survey_wrong (a.seen f) len h.gate h.generation h.size size (omega arith) (omega arith) says area (refuted c.in_ok-are_rows.field-0 c.if-not-branch.true test)

pub returns-clause-found : goal.returns-clause-found
returns-clause-found g c = λ told.
    let f = c.args.file in
    let a = g.B.Bay.disk c.args.bay.now in
    let b = g.B.Bay.disk c.sized_header.new.bay in
    let len = c.in_ok-len.len in
    let h = c.in_ok-len.header in
    let size = c.in_ok-len.ensures.size told in
    let says = c.in_ok-len.ensures.says told in
    let told1 = still_told _ a b _ c.sized_header.ensures.works f told in
    let area = c.has_area.ensures.0 c.if-not-has_area.false in
    let body = c.has_body.ensures.0 c.if-not-has_body.false in
    let within : 17 + h.size ≤ length (b.seen f) = subst (λ (l : List ℕ). 17 + h.size ≤ length l) (sym c.sized_header.ensures.same) (omega (arith, body, size)) in
    let test : IsTrue c.in_ok-are_rows.field-0 ↔ BeginsWithRows (17 + h.size - 17) (drop 17 (a.seen f)) =
    subst (λ (l : List ℕ). IsTrue c.in_ok-are_rows.field-0 ↔ BeginsWithRows (17 + h.size - 17) (drop 17 l)) c.sized_header.ensures.same (c.in_ok-are_rows.ensures.told told1 within) in
    let rows = test.0 c.if-not-branch.false in
    (rows.rows, survey_holds (a.seen f) len h.gate h.generation h.size size (omega arith) (omega arith) says area.1 body rows)

pub returns-in_err-are_rows-clause-works : goal.returns-in_err-are_rows-clause-works
returns-in_err-are_rows-clause-works g c = same_after Same c.args.file _ _ _ c.sized_header.ensures.works c.are_rows.ensures.works

pub returns-then-not-branch-clause-works : goal.returns-then-not-branch-clause-works
returns-then-not-branch-clause-works g c = same_after Same c.args.file _ _ _ c.sized_header.ensures.works c.are_rows.ensures.works

pub returns-clause-works : goal.returns-clause-works
returns-clause-works g c = same_after Same c.args.file _ _ _ c.sized_header.ensures.works c.are_rows.ensures.works
