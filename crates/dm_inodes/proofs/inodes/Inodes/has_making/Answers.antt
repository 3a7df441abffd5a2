use Rattle.std.proofs.Common.{◌<◌, ◌≤◌, sym, ◌∙◌, arith}
use Rattle.std.specs.FinMap as map
use Rattle.dm_inodes.proofs.Seeking.{seeking_begun, seeking_on, seeking_found, seeking_end}
use Rattle.dm_inodes.proofs.inodes.Inodes.has_making.Goals as goal

pub loop-at-init : goal.loop-at-init
loop-at-init c = seeking_begun c.args.self.now.rows.rows

pub returns-then-is_making_at : goal.returns-then-is_making_at
returns-then-is_making_at c =
    let small : c.loop-at.at < map.len c.args.self.now.rows.rows = let e = c.len-at-end.ensures.len in let t = c.loop-at-test.true in omega arith in
    sym (seeking_found c.loop-at.at c.args.self.now.rows.rows small (sym c.is_making_at.ensures ∙ c.if-is_making_at.true) c.loop-at.invariant)

pub loop-at-preserved : goal.loop-at-preserved
loop-at-preserved c =
    let small : c.loop-at.at < map.len c.args.self.now.rows.rows = let e = c.len-at-end.ensures.len in let t = c.loop-at-test.true in omega arith in
    seeking_on c.loop-at.at c.args.self.now.rows.rows small (sym c.is_making_at.ensures ∙ c.if-is_making_at.false) c.loop-at.invariant

pub returns : goal.returns
returns c =
    let past : map.len c.args.self.now.rows.rows ≤ c.loop-at.at = let e = c.len-at-end.ensures.len in let t = c.loop-at-test.false in omega arith in
    sym (seeking_end c.loop-at.at c.args.self.now.rows.rows past c.loop-at.invariant)
