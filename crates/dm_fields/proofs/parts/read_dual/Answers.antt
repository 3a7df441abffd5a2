use Rattle.dm_fields.specs.Parts.{form_fields, IsOfForm}
use Rattle.dm_fields.proofs.PartsAbsent.{no_part, as_dual, bytes_spelling, BytesFit}
use Rattle.dm_fields.proofs.parts.read_dual.Goals as goal

pub returns-in-Err : goal.returns-in-Err
returns-in-Err c = no_part form_fields (IsOfForm 2) bytes_spelling BytesFit as_dual c.args.input.now c.read.new.input c.read.new.input c.in-Err.error c.in-Err.ensures
