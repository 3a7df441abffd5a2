use Rattle.std.proofs.Common.{refl}
use Rattle.dm_durable.specs.Fields.{IsIdentifier, FitsChunk}
use Rattle.dm_group_records.specs.declared.kinds.StepKind.TheVariants.{Move}
use Rattle.dm_group_records.proofs.StepForms.{no_step}
use Rattle.dm_group_records.proofs.steps.read_move.Goals as goal

pub returns-in-Err : goal.returns-in-Err
returns-in-Err c = no_step Move _ (λ x. IsIdentifier x.0.0 × (FitsChunk x.1.0 × FitsChunk x.1.1)) (λ x. refl) (λ x fits. (fits.0, (fits.1, fits.2))) c.args.input.now c.read.new.input c.read.new.input c.in-Err.error c.in-Err.ensures
