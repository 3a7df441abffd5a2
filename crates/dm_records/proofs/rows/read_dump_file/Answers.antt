use Rattle.std.proofs.Common.{refl}
use Rattle.dm_base.specs.Naming.{IsPath, IsDumpName}
use Rattle.dm_durable.specs.Fields.{FitsDumpInode}
use Rattle.dm_records.specs.declared.kinds.RowKind.TheVariants.{DumpFile}
use Rattle.dm_records.proofs.RowForms.{no_row}
use Rattle.dm_records.proofs.rows.read_dump_file.Goals as goal

pub returns-in-Err : goal.returns-in-Err
returns-in-Err c = no_row DumpFile _ (λ x. IsDumpName x.0 × (IsPath x.1.0 × FitsDumpInode x.1.1)) (λ x. refl) (λ x fits. (fits.0, (fits.1, fits.2))) c.args.input.now c.read.new.input c.read.new.input c.in-Err.error c.in-Err.ensures
