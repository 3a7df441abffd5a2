use Rattle.std.proofs.Common.{arith, ◌<◌, length}
use Rattle.dm_fields.proofs.Items.{items_absent}
use Rattle.dm_fields.proofs.lists.read_items.Goals as goal

pub returns-in-Err : goal.returns-in-Err
returns-in-Err g c =
    let i = c.loop.invariant in
    let few : length c.loop.items.items < c.args.count = omega (arith, i.as_many) in
    items_absent g.T.Spelled.spelling g.T.Spelled.fits g.met.T.Field.once c.loop.items.items c.args.count c.args.input.now c.loop.input c.read.new.input c.read.new.input c.in-Err.error few i.fits i.spelled c.in-Err.ensures
