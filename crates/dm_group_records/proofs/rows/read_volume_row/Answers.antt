use Rattle.dm_fields.proofs.PartsAbsent.{no_part}
use Rattle.dm_group_records.specs.Rows.{row_fields, IsOfRowByte}
use Rattle.dm_group_records.proofs.RowForms.{as_volume, volume_spelling, VolumeFits}
use Rattle.dm_group_records.proofs.rows.read_volume_row.Goals as goal

pub returns-in-Err : goal.returns-in-Err
returns-in-Err c = no_part row_fields (IsOfRowByte 43) volume_spelling VolumeFits as_volume c.args.input.now c.read.new.input c.read.new.input c.in-Err.error c.in-Err.ensures
