use Rattle.std.proofs.Common.{refl}
use Rattle.dm_base.specs.Naming.{IsSerial}
use Rattle.dm_durable.specs.Fields.{IsByte, IsWord}
use Rattle.dm_group_records.specs.declared.kinds.StepKind.TheVariants.{Reuse}
use Rattle.dm_group_records.proofs.StepForms.{no_step}
use Rattle.dm_group_records.proofs.steps.read_reuse.Goals as goal

pub returns-in-Err : goal.returns-in-Err
returns-in-Err c = no_step Reuse _ (λ x. IsSerial x.0.0 × (IsWord x.1.0 × IsByte x.1.1)) (λ x. refl) (λ x fits. (fits.0, (fits.1, fits.2))) c.args.input.now c.read.new.input c.read.new.input c.in-Err.error c.in-Err.ensures
