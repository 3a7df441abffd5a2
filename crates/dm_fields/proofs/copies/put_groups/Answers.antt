use Rattle.std.proofs.Common.{length, subst, ◌+◌, ◌≤◌, sym}
use Rattle.dm_fields.proofs.CopyForms.{room_of_group}
use Rattle.dm_fields.proofs.copies.put_groups.Goals as goal

pub put_group-end-requires : goal.put_group-end-requires
put_group-end-requires c =
    subst (λ n. c.loop-copy.end + 1 ≤ n) (sym c.loop-copy.auto.out)
    (room_of_group c.args.copies.now c.loop-copy.copy-index c.loop-copy.end (length c.args.out.now) c.loop-copy-test.true c.loop-copy.invariant.room)
