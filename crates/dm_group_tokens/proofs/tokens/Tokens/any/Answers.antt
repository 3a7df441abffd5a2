use Rattle.std.proofs.Common.{◌≤◌, sym, arith}
use Rattle.std.specs.FinMap as map
use Rattle.dm_tables.proofs.Orders.{numbers}
use Rattle.dm_requests.proofs.Asking.{asking_begun, asking_on, asking_here, asking_end, asking_past}
use Rattle.dm_group_tokens.proofs.tokens.Tokens.any.Goals as goal

pub loop-at-init : goal.loop-at-init
loop-at-init g c = asking_begun numbers (g.T.Test.passes c.args.test.now) c.args.self.now.rows.rows

pub returns-in_default : goal.returns-in_default
returns-in_default g c = asking_end numbers (g.T.Test.passes c.args.test.now) c.args.self.now.rows.rows c.loop-at.at c.in_default.ensures c.loop-at.invariant

pub returns-then-test : goal.returns-then-test
returns-then-test g c =
    asking_here numbers (g.T.Test.passes c.args.test.now) c.args.self.now.rows.rows c.loop-at.at c.in-Some.field-0-0 c.in-Some.row.now c.in-Some.ensures (sym c.if-test.ensures) c.loop-at.invariant

pub loop-at-preserved : goal.loop-at-preserved
loop-at-preserved g c =
    asking_on numbers (g.T.Test.passes c.args.test.now) c.args.self.now.rows.rows c.loop-at.at c.in-Some.field-0-0 c.in-Some.row.now c.in-Some.ensures (sym c.if-test.ensures) c.loop-at.invariant

pub returns : goal.returns
returns g c =
    let past : map.len c.args.self.now.rows.rows ≤ c.loop-at.at = let e = c.len-at-end.ensures.len in let t = c.loop-at-test.false in omega arith in
    asking_past numbers (g.T.Test.passes c.args.test.now) c.args.self.now.rows.rows c.loop-at.at past c.loop-at.invariant
