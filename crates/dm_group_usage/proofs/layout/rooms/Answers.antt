use Rattle.std.proofs.Common.{drop, arith, get_or, ◌+◌, []}
use Rattle.std.proofs.lemmas.List.{drop_all}
use Rattle.dm_rules.specs.declared.space.Space.{Space}
use Rattle.dm_group_usage.proofs.Lists.{drop_next}
use Rattle.dm_group_usage.proofs.Layouts.{summed_on, summed_end}
use Rattle.dm_group_usage.proofs.layout.rooms.Goals as goal

pub loop-space-init : goal.loop-space-init
loop-space-init c = record { is = omega arith; low = omega arith }

pub overflow_add-sum : goal.overflow_add-sum
overflow_add-sum c = omega arith

pub loop-space-preserved : goal.loop-space-preserved
loop-space-preserved c =
    let spaces = c.args.spaces.now in
    let i = c.loop-space.space-index in
    let d : Space = record { vsn = record { 0 = [] }; version = 0; tip = 0; room = 0 } in
    rw c.from-sum.ensures (summed_on c.loop-space.sum _ i (drop i spaces) (drop (i + 1) spaces) (get_or spaces i d) (drop_next spaces i d c.loop-space-test.true) (omega arith) c.loop-space.invariant)

pub returns : goal.returns
returns c = summed_end c.loop-space.sum _ _ _ (drop_all c.loop-space.space-index c.args.spaces.now c.loop-space-test.false) c.loop-space.invariant
