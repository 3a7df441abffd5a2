use Rattle.std.specs.List.{AllByRecursion}
use Rattle.std.proofs.Common.{refl, length}
use Rattle.dm_durable.specs.Fields.{IsWord, IsIdentifier, IsCount, FitsChunk}
use Rattle.dm_group_records.specs.declared.kinds.StepKind.TheVariants.{Commit}
use Rattle.dm_group_records.proofs.StepForms.{no_step}
use Rattle.dm_group_records.proofs.steps.read_commit.Goals as goal

pub returns-in-Err : goal.returns-in-Err
returns-in-Err c = no_step Commit _ (λ x. IsIdentifier x.0.0 × (IsWord x.1.0 × (IsCount (length x.1.1) × AllByRecursion FitsChunk x.1.1))) (λ x. refl) (λ x fits. (fits.0, (fits.1, (fits.2, fits.3)))) c.args.input.now c.read.new.input c.read.new.input c.in-Err.error c.in-Err.ensures
