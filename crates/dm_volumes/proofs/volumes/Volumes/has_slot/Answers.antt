use Rattle.std.proofs.Common.{◌≤◌, sym, arith}
use Rattle.std.proofs.lemmas.Bool.{eq-eqb, ne_eqb}
use Rattle.std.specs.FinMap.{len}
use Rattle.dm_volumes.proofs.Loops.{asking_begun, asking_on, asking_here, asking_none, asking_end}
use Rattle.dm_volumes.proofs.volumes.Volumes.has_slot.Goals as goal

pub loop-at-init : goal.loop-at-init
loop-at-init c = asking_begun c.args.slot c.args.self.now.rows.rows

pub returns-in_default : goal.returns-in_default
returns-in_default c = asking_none c.args.slot c.loop-at.at c.args.self.now.rows.rows (sym c.in_default.ensures) c.loop-at.invariant

pub returns-then-row-slot : goal.returns-then-row-slot
returns-then-row-slot c =
    asking_here c.args.slot c.loop-at.at c.args.self.now.rows.rows _ c.in-Some.row.now (sym c.in-Some.ensures) (eq-eqb _ _ c.if-row-slot.true) c.loop-at.invariant

pub loop-at-preserved : goal.loop-at-preserved
loop-at-preserved c =
    asking_on c.args.slot c.loop-at.at c.args.self.now.rows.rows _ c.in-Some.row.now (sym c.in-Some.ensures) (ne_eqb _ _ c.if-row-slot.false) c.loop-at.invariant

pub returns : goal.returns
returns c =
    let past : len c.args.self.now.rows.rows ≤ c.loop-at.at = let e = c.len-at-end.ensures.len in let t = c.loop-at-test.false in omega arith in
    asking_end c.args.slot c.loop-at.at c.args.self.now.rows.rows past c.loop-at.invariant
