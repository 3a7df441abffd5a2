use Rattle.dm_records.specs.Payloads.{payload_fields, IsOfByte}
use Rattle.dm_fields.proofs.PartsAbsent.{no_part}
use Rattle.dm_records.proofs.LogForms.{as_head, head_spelling, HeadFits, head_read, no_version}
use Rattle.dm_records.proofs.logs.read_head.Goals as goal

pub returns-in-Some : goal.returns-in-Some
returns-in-Some c =
    head_read c.in-Ok.time c.in-Ok.name c.in-Ok.site c.in-Ok.first c.in-Ok.age c.in-Some.version c.args.input.now c.read.new.input c.in-Some.ensures c.in-Ok.ensures.0 c.in-Ok.ensures.1

pub returns-in-None : goal.returns-in-None
returns-in-None c =
    no_version (c.in-Ok.time, (c.in-Ok.name, (c.in-Ok.site, (c.in-Ok.first, c.in-Ok.age)))) c.args.input.now c.read.new.input c.in-None.ensures c.in-Ok.ensures.0 c.in-Ok.ensures.1

pub returns-in-Err : goal.returns-in-Err
returns-in-Err c = no_part payload_fields (IsOfByte 1) head_spelling HeadFits as_head c.args.input.now c.read.new.input c.read.new.input c.in-Err.error c.in-Err.ensures
