use Rattle.std.proofs.Common.{arith}
use Rattle.dm_durable_steps.proofs.Dropping.{dropping_on, dropping_end}
use Rattle.dm_durable_steps.proofs.Reading.{read_again}
use Rattle.dm_durable_steps.proofs.entries.drop_all.Goals as goal

pub loop-bfid-preserved : goal.loop-bfid-preserved
loop-bfid-preserved c =
    dropping_on c.args.bfids.now c.loop-bfid.bfid-index _ c.loop-bfid.entries c.edit.new.self _ c.loop-bfid-test.true
    (read_again c.args.bfids.now c.loop-bfid.bfid-index _ c.loop-bfid-test.true) c.in_ok-edit.ensures c.loop-bfid.invariant

pub returns : goal.returns
returns c = dropping_end c.args.bfids.now c.loop-bfid.bfid-index c.loop-bfid.entries _ (let t = c.loop-bfid-test.false in omega arith) c.loop-bfid.invariant
