use Rattle.dm_openings.proofs.OpeningsBegin.{alike_in}
use Rattle.dm_openings.proofs.laws.openings_alike.Goals as goal

pub returns : goal.returns
returns c = record { alike = λ l j xs ys x is part legal more rooted same. alike_in l j xs ys x is part legal more rooted same }
