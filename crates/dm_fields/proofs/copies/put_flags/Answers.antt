use Rattle.std.proofs.Common.{length, subst, ◌+◌, ◌≤◌, sym}
use Rattle.dm_fields.proofs.CopyForms.{room_of_flag}
use Rattle.dm_fields.proofs.copies.put_flags.Goals as goal

pub put_flag-end-requires : goal.put_flag-end-requires
put_flag-end-requires c =
    subst (λ n. c.loop-copy.end + 1 ≤ n) (sym c.loop-copy.auto.out)
    (room_of_flag c.args.copies.now c.loop-copy.copy-index c.loop-copy.end (length c.args.out.now) c.loop-copy-test.true c.loop-copy.invariant.room)
