use Rattle.std.proofs.Common.{rules}
use Rattle.dm_fields.specs.Parts.{form_fields, IsOfForm, long_content_field}
use Rattle.dm_fields.proofs.PartsAbsent.{no_part, as_regular, bytes_spelling, BytesFit, no_regular}
use Rattle.dm_fields.proofs.parts.read_regular.Goals as goal

pub returns-in-Err : goal.returns-in-Err
returns-in-Err c = no_part form_fields (IsOfForm 0) bytes_spelling BytesFit as_regular c.args.input.now c.read.new.input c.read.new.input c.in-Err.error c.in-Err.ensures

pub returns-then-bfid-ne0 : goal.returns-then-bfid-ne0
returns-then-bfid-ne0 c = no_regular c.in-Ok.bfid.0 (long_content_field c.in-Ok.long.bytes) c.args.input.now c.read.new.input c.in-Ok.ensures.1.0 (search rules) c.in-Ok.ensures.0
