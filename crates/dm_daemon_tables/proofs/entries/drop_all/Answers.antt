use Rattle.std.proofs.Common.{arith}
use Rattle.dm_daemon_tables.proofs.Dropping.{dropping_on, dropping_end}
use Rattle.dm_daemon_tables.proofs.Reading.{read_again}
use Rattle.dm_daemon_tables.proofs.entries.drop_all.Goals as goal

pub loop-bfid-preserved : goal.loop-bfid-preserved
loop-bfid-preserved c =
    dropping_on c.args.bfids.now c.loop-bfid.bfid-index _ c.loop-bfid.entries.rows c.change-there.new.self.rows _ c.loop-bfid-test.true
    (read_again c.args.bfids.now c.loop-bfid.bfid-index _ c.loop-bfid-test.true) c.change-there.ensures.rows c.loop-bfid.invariant

pub returns : goal.returns
returns c = dropping_end c.args.bfids.now c.loop-bfid.bfid-index c.loop-bfid.entries.rows _ (let t = c.loop-bfid-test.false in omega arith) c.loop-bfid.invariant
