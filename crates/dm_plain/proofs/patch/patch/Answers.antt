use Rattle.std.proofs.Common.{ℕ, List, length, ◌+◌, ap, ◌∙◌}
use Rattle.dm_plain.specs.Patching.{with_zeros, with_overlay}
use Rattle.dm_plain.proofs.Patching.{overlaid-lengthened}
use Rattle.dm_plain.proofs.patch.patch.Goals as goal

pub returns-clause-ok : goal.returns-clause-ok
returns-clause-ok c =
    c.from_vec-2.ensures ∙ c.in_ok-done.ensures.ok
    ∙ ap (λ (l : List ℕ). with_overlay c.args.offset c.args.piece.now (with_zeros (c.args.offset + length c.args.piece.now) l))
    (c.into_vec-items.ensures ∙ c.replace.ensures.value)
    ∙ overlaid-lengthened c.args.offset c.args.piece.now c.args.bytes.now
