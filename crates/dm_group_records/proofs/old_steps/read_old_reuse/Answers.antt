use Rattle.dm_fields.proofs.PartsAbsent.{no_part}
use Rattle.dm_group_records.specs.OldSteps.{old_fields, IsOfOldKind}
use Rattle.dm_group_records.specs.declared.kinds.OldKind.TheVariants as old
use Rattle.dm_group_records.proofs.OldForms.{as_reuse, reuse_spelling, ReuseFits}
use Rattle.dm_group_records.proofs.old_steps.read_old_reuse.Goals as goal

pub returns-in-Err : goal.returns-in-Err
returns-in-Err c = no_part old_fields (IsOfOldKind old.Reuse) reuse_spelling ReuseFits as_reuse c.args.input.now c.read.new.input c.read.new.input c.in-Err.error c.in-Err.ensures
