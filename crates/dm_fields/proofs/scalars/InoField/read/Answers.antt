use Rattle.dm_fields.proofs.Absent.{too_short}
use Rattle.dm_fields.proofs.scalars.InoField.read.Goals as goal

pub returns-in-None : goal.returns-in-None
returns-in-None c = λ x rest fits e. too_short 8 x.0 c.args.input.now rest c.in-None.ensures e
