use Rattle.dm_pasts.proofs.NeedsMet.{history_lawful}
use Rattle.dm_pasts.proofs.laws.history_lawful.Goals as goal

pub returns : goal.returns
returns c = record { lawful = history_lawful }
