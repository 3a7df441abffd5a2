use Rattle.std.proofs.Common.{◌≡◌, arith, sym, ◌∙◌, ◌-◌, ◌+◌}
use Rattle.dm_group_plans.proofs.Lists.{slot_on, slot_here, slot_end}
use Rattle.dm_group_plans.proofs.new_volumes.free_slot.Goals as goal

pub loop-slot-preserved : goal.loop-slot-preserved
loop-slot-preserved c = slot_on c.args.volumes.now (16 - c.loop-slot.slot) (16 - (c.loop-slot.slot + 1)) c.loop-slot.slot _ (omega arith) (sym c.any.ensures ∙ c.if-not-any.false) c.loop-slot.invariant

pub returns-then-not-any : goal.returns-then-not-any
returns-then-not-any c = slot_here c.args.volumes.now (16 - c.loop-slot.slot) (16 - (c.loop-slot.slot + 1)) c.loop-slot.slot _ (omega arith) (sym c.any.ensures ∙ c.if-not-any.true) c.loop-slot.invariant

pub returns : goal.returns
returns c = (let e : 16 ≡ c.loop-slot.slot = omega arith in e) ∙ slot_end c.args.volumes.now (16 - c.loop-slot.slot) c.loop-slot.slot _ (omega arith) c.loop-slot.invariant
