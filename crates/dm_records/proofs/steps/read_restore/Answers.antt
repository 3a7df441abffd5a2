use Rattle.std.proofs.Common.{refl}
use Rattle.dm_base.specs.Naming.{IsPath, IsDumpName}
use Rattle.dm_durable.specs.Fields.{IsWord}
use Rattle.dm_records.specs.declared.kinds.StepKind.TheVariants.{Restore}
use Rattle.dm_records.proofs.StepForms.{no_step}
use Rattle.dm_records.proofs.steps.read_restore.Goals as goal

pub returns-in-Err : goal.returns-in-Err
returns-in-Err c = no_step Restore _ (λ x. IsDumpName x.0 × (IsPath x.1.0 × (IsPath x.1.1.0 × IsWord x.1.1.1))) (λ x. refl) (λ x fits. (fits.0, (fits.1, (fits.2, fits.3)))) c.args.input.now c.read.new.input c.read.new.input c.in-Err.error c.in-Err.ensures
