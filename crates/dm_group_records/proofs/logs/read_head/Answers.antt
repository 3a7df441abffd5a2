use Rattle.std.proofs.Common.{rules}
use Rattle.dm_fields.proofs.PartsAbsent.{no_part}
use Rattle.dm_group_records.specs.Payloads.{payload_fields, IsOfByte}
use Rattle.dm_group_records.proofs.LogForms.{read_as_head, head_spelling, HeadFits, head_read, no_name}
use Rattle.dm_group_records.proofs.logs.read_head.Goals as goal

pub returns-then-name-ne-NAME : goal.returns-then-name-ne-NAME
returns-then-name-ne-NAME c =
    no_name (c.in-Ok.time, (c.in-Ok.name, c.in-Ok.group)) c.args.input.now c.read.new.input (search rules) c.in-Ok.ensures.0 c.in-Ok.ensures.1

pub returns-else-name-ne-NAME : goal.returns-else-name-ne-NAME
returns-else-name-ne-NAME c =
    head_read c.in-Ok.time c.in-Ok.name c.in-Ok.group c.args.input.now c.read.new.input (search rules) c.in-Ok.ensures.0 c.in-Ok.ensures.1

pub returns-in-Err : goal.returns-in-Err
returns-in-Err c = no_part payload_fields (IsOfByte 1) head_spelling HeadFits read_as_head c.args.input.now c.read.new.input c.read.new.input c.in-Err.error c.in-Err.ensures
