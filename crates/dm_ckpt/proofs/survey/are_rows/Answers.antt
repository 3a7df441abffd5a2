use Rattle.std.proofs.Common.{refl, rules, IfSome, ◌+◌, ◌-◌, ◌≤◌, ℕ, List, Option, Some, None, length, drop, sym, ◌∙◌, subst, arith}
use Rattle.dm_host.specs.Disk.{Same}
use Rattle.dm_host.proofs.Moments.{same_after}
use Rattle.dm_journal.specs.Grammar.{longest}
use Rattle.dm_ckpt.specs.Survey.{RowAt}
use Rattle.dm_ckpt.proofs.Headers.{rows_before, rows_after, rows_at_end}
use Rattle.dm_host.proofs.Moments.{still_told}
use Rattle.dm_ckpt.proofs.Told.{cause_after}
use Rattle.dm_ckpt.proofs.Writing.{reads_none}
use Rattle.dm_ckpt.proofs.survey.are_rows.Goals as goal

pub loop-next-init : goal.loop-next-init
loop-next-init g c = record {
  above = omega arith;
  within = omega arith;
  count = refl;
  same = refl;
  works = reads_none c.args.file (g.B.Bay.disk c.args.bay.now);
  onward = λ told within b. b;
  back = λ told within b. b;
}

pub returns-in_err-n-clause-works : goal.returns-in_err-n-clause-works
returns-in_err-n-clause-works g c = same_after Same c.args.file _ _ _ c.loop-next.invariant.works c.row_len.ensures.works

pub returns-in_default-clause-works : goal.returns-in_default-clause-works
returns-in_default-clause-works g c = same_after Same c.args.file _ _ _ c.loop-next.invariant.works c.row_len.ensures.works

pub returns-in_default-clause-told : goal.returns-in_default-clause-told
returns-in_default-clause-told g c = λ told within.
    let f = c.args.file in
    let d0 = g.B.Bay.disk c.args.bay.now in
    let d1 = g.B.Bay.disk c.loop-next.bay in
    let file = d0.seen f in
    let next = c.loop-next.next in
    let told1 = still_told _ d0 d1 _ c.loop-next.invariant.works f told in
    let within1 : c.args.end ≤ length (d1.seen f) = subst (λ (l : List ℕ). c.args.end ≤ length l) (sym c.loop-next.invariant.same) within in
    let none : RowAt None (c.args.end - next) (drop next file) =
    subst (λ (l : List ℕ). RowAt None (c.args.end - next) (drop next l)) c.loop-next.invariant.same
    (subst (λ (o : Option ℕ). RowAt o (c.args.end - next) (drop next (d1.seen f))) c.in_default.is (c.in_ok-n.ensures.found told1 within1)) in
    (λ is. absurd (cc (is)), λ b. absurd (none (c.loop-next.invariant.back told within b)))

pub returns-clause-told : goal.returns-clause-told
returns-clause-told g c = λ told within.
    let file = (g.B.Bay.disk c.args.bay.now).seen c.args.file in
    (λ is. c.loop-next.invariant.onward told within (rows_at_end c.loop-next.next c.args.end file (omega arith)), λ b. refl)

pub loop-next-preserved : goal.loop-next-preserved
loop-next-preserved g c =
    let f = c.args.file in
    let d0 = g.B.Bay.disk c.args.bay.now in
    let d1 = g.B.Bay.disk c.loop-next.bay in
    let file = d0.seen f in
    let next = c.loop-next.next in
    let n = c.in-Some.n in
    let range : (n ≤ longest) × (next + (4 + n) ≤ c.args.end) =
    subst (λ (o : Option ℕ). IfSome o (λ m. (m ≤ longest) × (next + (4 + m) ≤ c.args.end))) c.in-Some.is c.in_ok-n.ensures.range in
    record {
      above = omega arith;
      within = range.1;
      count = c.in_ok-n.ensures.cause.none ∙ c.loop-next.invariant.count;
      same = c.row_len.ensures.same ∙ c.loop-next.invariant.same;
      works = same_after Same f _ _ _ c.loop-next.invariant.works c.row_len.ensures.works;
      onward = λ told within b.
          let told1 = still_told _ d0 d1 _ c.loop-next.invariant.works f told in
          let within1 : c.args.end ≤ length (d1.seen f) = subst (λ (l : List ℕ). c.args.end ≤ length l) (sym c.loop-next.invariant.same) within in
          let at : RowAt (Some n) (c.args.end - next) (drop next file) =
          subst (λ (l : List ℕ). RowAt (Some n) (c.args.end - next) (drop next l)) c.loop-next.invariant.same
          (subst (λ (o : Option ℕ). RowAt o (c.args.end - next) (drop next (d1.seen f))) c.in-Some.is (c.in_ok-n.ensures.found told1 within1)) in
          c.loop-next.invariant.onward told within (rows_before file next c.args.end n within at b);
      back = λ told within b.
          let told1 = still_told _ d0 d1 _ c.loop-next.invariant.works f told in
          let within1 : c.args.end ≤ length (d1.seen f) = subst (λ (l : List ℕ). c.args.end ≤ length l) (sym c.loop-next.invariant.same) within in
          let at : RowAt (Some n) (c.args.end - next) (drop next file) =
          subst (λ (l : List ℕ). RowAt (Some n) (c.args.end - next) (drop next l)) c.loop-next.invariant.same
          (subst (λ (o : Option ℕ). RowAt o (c.args.end - next) (drop next (d1.seen f))) c.in-Some.is (c.in_ok-n.ensures.found told1 within1)) in
          rows_after file next c.args.end n (omega arith) at (omega (arith, range.0)) (c.loop-next.invariant.back told within b);
    }

pub returns-in_err-n-clause-cause : goal.returns-in_err-n-clause-cause
returns-in_err-n-clause-cause g c = search (rules, c.loop-next.invariant.count)

pub returns-in_default-clause-cause : goal.returns-in_default-clause-cause
returns-in_default-clause-cause g c = cause_after _ _ _ _ c.loop-next.invariant.count (record { kept = c.row_len.ensures.cause.kept; none = c.in_ok-n.ensures.cause.none; rose = tt })

pub returns-clause-cause : goal.returns-clause-cause
returns-clause-cause g c = record { kept = omega (arith, c.loop-next.invariant.count); none = c.loop-next.invariant.count; rose = tt }
