use Rattle.dm_fields.specs.Parts.{form_fields, IsOfForm}
use Rattle.dm_fields.proofs.PartsAbsent.{no_part, as_offline, length_spelling, LengthFits}
use Rattle.dm_fields.proofs.parts.read_offline.Goals as goal

pub returns-in-Err : goal.returns-in-Err
returns-in-Err c = no_part form_fields (IsOfForm 3) length_spelling LengthFits as_offline c.args.input.now c.read.new.input c.read.new.input c.in-Err.error c.in-Err.ensures
