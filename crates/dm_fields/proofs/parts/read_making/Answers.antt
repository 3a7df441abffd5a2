use Rattle.dm_fields.specs.Parts.{form_fields, IsOfForm}
use Rattle.dm_fields.proofs.PartsAbsent.{no_part, as_making, bytes_spelling, BytesFit}
use Rattle.dm_fields.proofs.parts.read_making.Goals as goal

pub returns-in-Err : goal.returns-in-Err
returns-in-Err c = no_part form_fields (IsOfForm 1) bytes_spelling BytesFit as_making c.args.input.now c.read.new.input c.read.new.input c.in-Err.error c.in-Err.ensures
