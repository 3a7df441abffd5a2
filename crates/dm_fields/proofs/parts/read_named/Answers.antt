use Rattle.dm_fields.specs.Parts.{keeping_fields, IsOfKeeping}
use Rattle.dm_fields.proofs.PartsAbsent.{no_part, as_named, length_spelling, LengthFits}
use Rattle.dm_fields.proofs.parts.read_named.Goals as goal

pub returns-in-Err : goal.returns-in-Err
returns-in-Err c = no_part keeping_fields (IsOfKeeping 1) length_spelling LengthFits as_named c.args.input.now c.read.new.input c.read.new.input c.in-Err.error c.in-Err.ensures
