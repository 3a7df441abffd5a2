use Rattle.std.proofs.Common.{arith, ap, length}
use Rattle.dm_fields.proofs.Items.{left_length, left_none}
use Rattle.dm_fields.proofs.lists.items_len.Goals as goal

pub spelled_len-sum-requires : goal.spelled_len-sum-requires
spelled_len-sum-requires g c = let more = left_length g.T.Spelled.spelling c.args.items.now c.loop-item.item-index c.item-item.result c.loop-item-test.true c.item-item.is in let i = c.loop-item.invariant in omega arith

pub overflow_add-sum : goal.overflow_add-sum
overflow_add-sum g c = let more = left_length g.T.Spelled.spelling c.args.items.now c.loop-item.item-index c.item-item.result c.loop-item-test.true c.item-item.is in let i = c.loop-item.invariant in omega (arith, c.spelled_len-sum.ensures)

pub loop-item-preserved : goal.loop-item-preserved
loop-item-preserved g c = let more = left_length g.T.Spelled.spelling c.args.items.now c.loop-item.item-index c.item-item.result c.loop-item-test.true c.item-item.is in let i = c.loop-item.invariant in omega (arith, c.spelled_len-sum.ensures)

pub returns : goal.returns
returns g c =
    let none = ap length (left_none g.T.Spelled.spelling c.args.items.now c.loop-item.item-index c.loop-item-test.false) in
    let i = c.loop-item.invariant in
    omega arith
