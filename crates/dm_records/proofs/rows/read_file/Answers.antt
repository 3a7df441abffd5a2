use Rattle.std.proofs.Common.{refl}
use Rattle.dm_base.specs.Naming.{IsPath}
use Rattle.dm_durable.specs.Fields.{IsWord, FitsContents}
use Rattle.dm_records.specs.declared.kinds.RowKind.TheVariants.{File}
use Rattle.dm_records.proofs.RowForms.{no_row}
use Rattle.dm_records.proofs.rows.read_file.Goals as goal

pub returns-in-Err : goal.returns-in-Err
returns-in-Err c = no_row File _ (λ x. IsPath x.0 × (IsWord x.1.0.0 × (IsWord x.1.1.0 × FitsContents x.1.1.1))) (λ x. refl) (λ x fits. (fits.0, (fits.1, (fits.2, fits.3)))) c.args.input.now c.read.new.input c.read.new.input c.in-Err.error c.in-Err.ensures
