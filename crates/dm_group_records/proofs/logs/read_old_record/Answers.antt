use Rattle.dm_group_records.proofs.LogForms.{no_old_fields, no_old_time}
use Rattle.dm_group_records.proofs.logs.read_old_record.Goals as goal

pub returns-in-Err : goal.returns-in-Err
returns-in-Err c = no_old_time c.args.kind c.args.input.now c.read.new.input c.read.new.input c.in-Err.error c.in-Err.ensures

pub returns-in-Err-read_old_fields : goal.returns-in-Err-read_old_fields
returns-in-Err-read_old_fields c =
    no_old_fields c.args.kind c.in-Ok.time c.args.input.now c.read.new.input c.read_old_fields.new.input c.read_old_fields.new.input c.in-Err-read_old_fields.error c.in-Ok.ensures.1 c.in-Ok.ensures.0 c.in-Err-read_old_fields.ensures
