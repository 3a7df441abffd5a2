use Rattle.dm_lasting.proofs.NumbersRise.{requests_rise}
use Rattle.dm_lasting.proofs.laws.numbers_rise.Goals as goal

pub returns : goal.returns
returns c = record { requests = λ j k w e a on is. requests_rise j w e k a on is }
