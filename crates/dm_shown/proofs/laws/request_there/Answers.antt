use Rattle.dm_shown.proofs.BitfilesThere.{request_there as there}
use Rattle.dm_shown.proofs.laws.request_there.Goals as goal

pub returns : goal.returns
returns c = record { there = λ j kept. there j kept }
