use Rattle.dm_history.proofs.PastsAlike.{chains_alike}
use Rattle.dm_history.proofs.laws.kept_same.Goals as goal

pub returns : goal.returns
returns c = record {
  alike = λ begun xs ys x opened part legal more rooted same. chains_alike begun opened xs ys x part legal more rooted same;
}
