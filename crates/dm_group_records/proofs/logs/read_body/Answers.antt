use Rattle.std.proofs.Common.{rules}
use Rattle.dm_group_records.proofs.LogForms.{no_kind}
use Rattle.dm_group_records.proofs.logs.read_body.Goals as goal

pub returns-in-None-of_byte : goal.returns-in-None-of_byte
returns-in-None-of_byte c = no_kind c.args.byte c.args.input.now (search rules) c.in-None.ensures c.in-None-of_byte.ensures
