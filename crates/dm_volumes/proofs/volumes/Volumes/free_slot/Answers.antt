use Rattle.std.proofs.Common.{◌≡◌, ◌-◌, ◌+◌, suc, sym, ◌∙◌, arith}
use Rattle.dm_volumes.proofs.Loops.{taken_slot, here_slot, no_slot}
use Rattle.dm_volumes.proofs.volumes.Volumes.free_slot.Goals as goal

pub loop-slot-preserved : goal.loop-slot-preserved
loop-slot-preserved c =
    let more : 16 - c.loop-slot.slot ≡ suc (16 - (c.loop-slot.slot + 1)) = let t = c.loop-slot-test.true in omega arith in (
      omega arith,
      sym (taken_slot c.args.self.now.rows.rows (16 - c.loop-slot.slot) (16 - (c.loop-slot.slot + 1)) c.loop-slot.slot (sym c.has_slot.ensures ∙ c.if-has_slot.true) more) ∙ c.loop-slot.invariant.1,
    )

pub returns-else-has_slot : goal.returns-else-has_slot
returns-else-has_slot c =
    let more : 16 - c.loop-slot.slot ≡ suc (16 - (c.loop-slot.slot + 1)) = let t = c.loop-slot-test.true in omega arith in
    sym (here_slot c.args.self.now.rows.rows (16 - c.loop-slot.slot) (16 - (c.loop-slot.slot + 1)) c.loop-slot.slot (sym c.has_slot.ensures ∙ c.if-has_slot.false) more) ∙ c.loop-slot.invariant.1

pub returns-after-loop-slot : goal.returns-after-loop-slot
returns-after-loop-slot c =
    let none : 16 - c.loop-slot.slot ≡ 0 = let t = c.loop-slot-test.false in omega arith in
    sym (no_slot c.args.self.now.rows.rows (16 - c.loop-slot.slot) c.loop-slot.slot none) ∙ c.loop-slot.invariant.1
