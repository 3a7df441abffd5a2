use Rattle.std.proofs.Common.{refl, length}
use Rattle.dm_base.specs.Naming.{IsPath}
use Rattle.dm_durable.specs.Fields.{IsWord, IsCount}
use Rattle.dm_records.specs.declared.kinds.StepKind.TheVariants.{Write}
use Rattle.dm_records.proofs.StepForms.{no_step}
use Rattle.dm_records.proofs.steps.read_write.Goals as goal

pub returns-in-Err : goal.returns-in-Err
returns-in-Err c = no_step Write _ (λ x. IsPath x.0 × (IsWord x.1.0 × IsCount (length x.1.1))) (λ x. refl) (λ x fits. (fits.0, (fits.1, fits.2))) c.args.input.now c.read.new.input c.read.new.input c.in-Err.error c.in-Err.ensures
