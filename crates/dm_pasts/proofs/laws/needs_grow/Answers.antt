use Rattle.dm_pasts.proofs.NeedsMet.{needs_grow}
use Rattle.dm_pasts.proofs.laws.needs_grow.Goals as goal

pub returns : goal.returns
returns c = record { grow = needs_grow }
