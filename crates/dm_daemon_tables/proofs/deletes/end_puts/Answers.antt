use Rattle.std.proofs.Common.{◌<◌, ◌≤◌, arith}
use Rattle.std.specs.FinMap as map
use Rattle.dm_daemon_tables.proofs.Restarting.{ending_begun, ending_on, ending_end}
use Rattle.dm_daemon_tables.proofs.deletes.end_puts.Goals as goal

pub loop-at-init : goal.loop-at-init
loop-at-init c = ending_begun c.args.time.0 c.args.inodes.now.rows.rows c.args.entries.now.rows

pub loop-at-preserved : goal.loop-at-preserved
loop-at-preserved c =
    let small : c.loop-at.at < map.len c.args.inodes.now.rows.rows = let e = c.len-at-end.ensures.len in let t = c.loop-at-test.true in omega arith in
    ending_on c.loop-at.at c.args.time.0 c.args.inodes.now.rows.rows c.loop-at.inodes.rows.rows c.end_put_at-named.new.self.rows.rows c.args.entries.now.rows c.loop-at.entries.rows
    c.let_go_if.new.entries.rows _ small c.loop-at.invariant c.end_put_at-named.ensures.named c.end_put_at-named.ensures.rows c.let_go_if.ensures.rows

pub returns-clause-inodes : goal.returns-clause-inodes
returns-clause-inodes c =
    let past : map.len c.args.inodes.now.rows.rows ≤ c.loop-at.at = let e = c.len-at-end.ensures.len in let t = c.loop-at-test.false in omega arith in
    ending_end c.loop-at.at c.args.time.0 c.args.inodes.now.rows.rows c.loop-at.inodes.rows.rows c.args.entries.now.rows c.loop-at.entries.rows past c.loop-at.invariant
