use Rattle.std.proofs.Common.{rules}
use Rattle.dm_fields.specs.Parts.{keeping_fields, IsOfKeeping, long_content_field}
use Rattle.dm_fields.proofs.PartsAbsent.{no_part, as_kept, bytes_spelling, BytesFit, no_kept}
use Rattle.dm_fields.proofs.parts.read_kept.Goals as goal

pub returns-in-Err : goal.returns-in-Err
returns-in-Err c = no_part keeping_fields (IsOfKeeping 0) bytes_spelling BytesFit as_kept c.args.input.now c.read.new.input c.read.new.input c.in-Err.error c.in-Err.ensures

pub returns-then-bfid-ne0 : goal.returns-then-bfid-ne0
returns-then-bfid-ne0 c = no_kept c.in-Ok.bfid.0 (long_content_field c.in-Ok.long.bytes) c.args.input.now c.read.new.input c.in-Ok.ensures.1.0 (search rules) c.in-Ok.ensures.0
