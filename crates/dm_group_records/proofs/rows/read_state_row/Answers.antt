use Rattle.dm_fields.proofs.PartsAbsent.{no_part}
use Rattle.dm_group_records.specs.Rows.{row_fields, IsOfRowByte}
use Rattle.dm_group_records.proofs.RowForms.{as_state, state_spelling, StateFits}
use Rattle.dm_group_records.proofs.rows.read_state_row.Goals as goal

pub returns-in-Err : goal.returns-in-Err
returns-in-Err c = no_part row_fields (IsOfRowByte 40) state_spelling StateFits as_state c.args.input.now c.read.new.input c.read.new.input c.in-Err.error c.in-Err.ensures
