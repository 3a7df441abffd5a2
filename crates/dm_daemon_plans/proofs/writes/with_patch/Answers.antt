use Rattle.std.proofs.Common.{ℕ, List, length, ◌+◌, ap, ◌∙◌}
use Rattle.dm_rules.specs.Patching.{with_zeros, with_overlay}
use Rattle.dm_plain.proofs.Patching.{overlaid-lengthened}
use Rattle.dm_daemon_plans.proofs.writes.with_patch.Goals as goal

pub returns : goal.returns
returns c =
    c.from_vec.ensures ∙ c.in_ok-write_over.ensures
    ∙ ap (λ (l : List ℕ). with_overlay c.args.offset c.args.bytes.now (with_zeros (c.args.offset + length c.args.bytes.now) l)) c.in_ok-whole.ensures.items
    ∙ overlaid-lengthened c.args.offset c.args.bytes.now c.args.old.now
