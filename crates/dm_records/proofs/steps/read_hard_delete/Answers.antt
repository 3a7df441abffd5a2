use Rattle.std.proofs.Common.{refl}
use Rattle.dm_records.specs.declared.kinds.StepKind.TheVariants.{HardDelete}
use Rattle.dm_records.proofs.StepForms.{no_step}
use Rattle.dm_records.proofs.steps.read_hard_delete.Goals as goal

pub returns-in-Err : goal.returns-in-Err
returns-in-Err c = no_step HardDelete _ _ (λ x. refl) (λ x fits. fits) c.args.input.now c.read.new.input c.read.new.input c.in-Err.error c.in-Err.ensures
