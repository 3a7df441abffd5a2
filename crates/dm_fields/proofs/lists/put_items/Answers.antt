use Rattle.dm_fields.proofs.Items.{writes_none, writes_room, writes_fits, writes_more, writes_all}
use Rattle.dm_fields.proofs.lists.put_items.Goals as goal

pub loop-item-init : goal.loop-item-init
loop-item-init g c = writes_none g.T.Spelled.spelling g.T.Spelled.fits c.args.items.now c.args.at c.args.out.now c.requires.fits c.requires.room

pub put-end-requires-clause-fits : goal.put-end-requires-clause-fits
put-end-requires-clause-fits g c = writes_fits g.T.Spelled.spelling g.T.Spelled.fits c.args.items.now c.args.at c.args.out.now c.loop-item.item-index c.loop-item.end c.loop-item.out c.loop-item.invariant c.item-item.result c.loop-item-test.true c.item-item.is

pub put-end-requires-clause-room : goal.put-end-requires-clause-room
put-end-requires-clause-room g c = writes_room g.T.Spelled.spelling g.T.Spelled.fits c.args.items.now c.args.at c.args.out.now c.loop-item.item-index c.loop-item.end c.loop-item.out c.loop-item.invariant c.item-item.result c.loop-item-test.true c.item-item.is c.loop-item.auto.out

pub loop-item-preserved : goal.loop-item-preserved
loop-item-preserved g c = writes_more g.T.Spelled.spelling g.T.Spelled.fits c.args.items.now c.args.at c.args.out.now c.loop-item.item-index c.loop-item.end c.loop-item.out c.loop-item.invariant c.item-item.result c.put-end.new.out c.put-end.result c.loop-item-test.true c.item-item.is c.put-end.ensures

pub returns : goal.returns
returns g c = writes_all g.T.Spelled.spelling g.T.Spelled.fits c.args.items.now c.args.at c.args.out.now c.loop-item.item-index c.loop-item.end c.loop-item.out c.loop-item.invariant c.loop-item-test.false
