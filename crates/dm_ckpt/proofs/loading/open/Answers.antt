use Rattle.std.proofs.Common.{subst}
use Rattle.dm_ckpt.specs.declared.opening.Start.{Start}
use Rattle.dm_ckpt.specs.Opening.{IsSound}
use Rattle.dm_ckpt.proofs.loading.open.Goals as goal

pub returns-in-Ok-Begun-clause-whole : goal.returns-in-Ok-Begun-clause-whole
returns-in-Ok-Begun-clause-whole g c = λ told f damaged.
    absurd (subst (λ (s : Start). IsSound c.args.component s (g.B.Bay.disk c.args.bay.now).seen) c.in-Ok-Begun.field-0-is (c.in-Ok-Begun.ensures.sound told) f damaged)
