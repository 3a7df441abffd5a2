use Rattle.std.specs.Prelude.{⊤}
use Rattle.std.proofs.Common.{refl}
use Rattle.dm_durable.specs.Fields.{IsWord, IsIdentifier}
use Rattle.dm_records.specs.declared.kinds.StepKind.TheVariants.{EndPut}
use Rattle.dm_records.proofs.StepForms.{no_step}
use Rattle.dm_records.proofs.steps.read_end_put.Goals as goal

pub returns-in-Err : goal.returns-in-Err
returns-in-Err c = no_step EndPut _ (λ x. IsWord x.0.0 × (IsIdentifier x.1.0.0 × ⊤)) (λ x. refl) (λ x fits. (fits.0, (fits.1, tt))) c.args.input.now c.read.new.input c.read.new.input c.in-Err.error c.in-Err.ensures
