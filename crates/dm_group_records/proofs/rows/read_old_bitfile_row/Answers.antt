use Rattle.dm_fields.proofs.PartsAbsent.{no_part}
use Rattle.dm_group_records.specs.Rows.{row_fields, IsOfRowByte}
use Rattle.dm_group_records.proofs.OldForms.{commit_spelling, CommitFits}
use Rattle.dm_group_records.proofs.RowForms.{as_old_bitfile, old_bitfile_read}
use Rattle.dm_group_records.proofs.rows.read_old_bitfile_row.Goals as goal

pub returns-in-Ok-chunks_of : goal.returns-in-Ok-chunks_of
returns-in-Ok-chunks_of c = old_bitfile_read c.in-Ok.bfid c.in-Ok.len c.in-Ok.old c.in-Ok-chunks_of.chunks c.args.input.now c.read.new.input c.in-Ok-chunks_of.ensures.ok c.in-Ok.ensures

pub returns : goal.returns
returns c = no_part row_fields (IsOfRowByte 42) commit_spelling CommitFits as_old_bitfile c.args.input.now c.read.new.input c.read.new.input c.in-Err.error c.in-Err.ensures
