use Rattle.dm_fields.proofs.PartsAbsent.{no_part}
use Rattle.dm_group_records.specs.Rows.{row_fields, IsOfRowByte}
use Rattle.dm_group_records.proofs.RowForms.{as_old_volume, old_volume_spelling, OldVolumeFits}
use Rattle.dm_group_records.proofs.rows.read_old_volume_row.Goals as goal

pub returns-in-Err : goal.returns-in-Err
returns-in-Err c = no_part row_fields (IsOfRowByte 41) old_volume_spelling OldVolumeFits as_old_volume c.args.input.now c.read.new.input c.read.new.input c.in-Err.error c.in-Err.ensures
