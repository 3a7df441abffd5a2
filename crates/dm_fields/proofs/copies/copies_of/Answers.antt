use Rattle.std.proofs.Common.{◌<◌, subst}
use Rattle.dm_fields.proofs.CopyForms.{no_flags}
use Rattle.dm_fields.proofs.copies.copies_of.Goals as goal

pub returns-in_default : goal.returns-in_default
returns-in_default c =
    no_flags c.args.flags.now c.loop-at.at (subst (λ n. c.loop-at.at < n) c.requires c.loop-at-test.true) c.in_default.ensures
