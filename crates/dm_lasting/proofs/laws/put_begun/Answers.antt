use Rattle.dm_lasting.proofs.PutsBegin.{put_begins}
use Rattle.dm_lasting.proofs.laws.put_begun.Goals as goal

pub returns : goal.returns
returns c = record { begun = λ j k w path asked now m n b bytes change kept is. put_begins j k w path asked now m n b bytes change kept is }
