use Rattle.std.proofs.Common.{refl}
use Rattle.dm_base.specs.Naming.{IsDumpName}
use Rattle.dm_durable.specs.Fields.{IsWord}
use Rattle.dm_records.specs.declared.kinds.RowKind.TheVariants.{Dump}
use Rattle.dm_records.proofs.RowForms.{no_row}
use Rattle.dm_records.proofs.rows.read_dump_row.Goals as goal

pub returns-in-Err : goal.returns-in-Err
returns-in-Err c = no_row Dump _ (λ x. IsDumpName x.0 × (IsWord x.1.0.0 × IsWord x.1.1)) (λ x. refl) (λ x fits. (fits.0, (fits.1, fits.2))) c.args.input.now c.read.new.input c.read.new.input c.in-Err.error c.in-Err.ensures
