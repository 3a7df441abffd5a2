use Rattle.dm_openings.proofs.OpeningsBegin.{lawful_openings}
use Rattle.dm_openings.proofs.laws.openings_lawful.Goals as goal

pub returns : goal.returns
returns c = record { lawful = lawful_openings }
