use Rattle.std.proofs.Common.{arith}
use Rattle.dm_fields.specs.Once.{length-behind}
use Rattle.dm_group_records.specs.Steps.{step_fields}
use Rattle.dm_group_records.proofs.logs.record_len.Goals as goal

pub overflow_add-result : goal.overflow_add-result
overflow_add-result c = let long = length-behind 8 c.args.record.now.time.0 (step_fields c.args.record.now.step) in omega (arith, c.fields_len.ensures)

pub returns : goal.returns
returns c = let long = length-behind 8 c.args.record.now.time.0 (step_fields c.args.record.now.step) in omega (arith, c.fields_len.ensures)
