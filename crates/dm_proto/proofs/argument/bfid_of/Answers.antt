use Rattle.std.proofs.Common.{arith, ◌<◌, ◌^◌}
use Rattle.dm_proto.proofs.Slots.{bfid_none, bfid_some}
use Rattle.dm_proto.proofs.argument.bfid_of.Goals as goal

pub returns-in_default : goal.returns-in_default
returns-in_default c = bfid_none _ c.in_default.ensures.none

-- a `Bfid` has 128 bits
pub returns : goal.returns
returns c =
    let small : c.in-Some.bfid.0 < 2 ^ 128 = omega arith in
    bfid_some c.in-Some.bfid c.args.word.now c.in-Some.ensures.spelled small
