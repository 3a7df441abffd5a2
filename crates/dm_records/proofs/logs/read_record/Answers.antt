use Rattle.dm_records.proofs.LogForms.{no_fields}
use Rattle.dm_records.proofs.logs.read_record.Goals as goal

pub returns-in-Err-read_fields : goal.returns-in-Err-read_fields
returns-in-Err-read_fields c =
    no_fields c.args.kind c.in-Ok.time c.args.input.now c.read.new.input c.read_fields.new.input c.read_fields.new.input c.in-Err-read_fields.error c.in-Ok.ensures.1 c.in-Ok.ensures.0 c.in-Err-read_fields.ensures
