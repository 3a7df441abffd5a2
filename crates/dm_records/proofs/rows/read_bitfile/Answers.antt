use Rattle.std.proofs.Common.{refl}
use Rattle.dm_records.specs.declared.kinds.RowKind.TheVariants.{Bitfile}
use Rattle.dm_records.proofs.RowForms.{no_row}
use Rattle.dm_records.proofs.rows.read_bitfile.Goals as goal

pub returns-in-Err : goal.returns-in-Err
returns-in-Err c = no_row Bitfile _ _ (λ x. refl) (λ x fits. fits) c.args.input.now c.read.new.input c.read.new.input c.in-Err.error c.in-Err.ensures
