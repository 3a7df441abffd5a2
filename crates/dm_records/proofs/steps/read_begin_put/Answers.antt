use Rattle.std.specs.List.{AllByRecursion}
use Rattle.std.proofs.Common.{refl, length}
use Rattle.dm_base.specs.Naming.{IsPath}
use Rattle.dm_durable.specs.Fields.{IsByte, IsIdentifier}
use Rattle.dm_records.specs.declared.kinds.StepKind.TheVariants.{BeginPut}
use Rattle.dm_records.proofs.StepForms.{no_step}
use Rattle.dm_records.proofs.steps.read_begin_put.Goals as goal

pub returns-in-Err : goal.returns-in-Err
returns-in-Err c = no_step BeginPut _ (λ x. IsPath x.0 × (IsIdentifier x.1.0.0 × (IsByte (length x.1.1.items) × AllByRecursion (λ g. IsByte g.0) x.1.1.items))) (λ x. refl) (λ x fits. (fits.0, (fits.1, (fits.2, fits.3)))) c.args.input.now c.read.new.input c.read.new.input c.in-Err.error c.in-Err.ensures
