use Rattle.std.proofs.Common.{◌≡◌, ◌+◌, ◌∙◌, arith, length, max, sym}
use Rattle.dm_plain.proofs.Patching.{length-patched}
use Rattle.dm_daemon_plans.proofs.writes.patched_len.Goals as goal

pub returns : goal.returns
returns c =
    let old = c.args.old.now in
    let bytes = c.args.bytes.now in
    c.max.ensures
    ∙ (let e : max (c.from.result + length bytes) (length old) ≡ max (length old) (c.args.offset + length bytes) = omega (arith, c.from.ensures) in e)
    ∙ sym (length-patched c.args.offset bytes old)
