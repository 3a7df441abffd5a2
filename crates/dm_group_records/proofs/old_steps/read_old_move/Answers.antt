use Rattle.dm_fields.proofs.PartsAbsent.{no_part}
use Rattle.dm_group_records.specs.OldSteps.{old_fields, IsOfOldKind}
use Rattle.dm_group_records.specs.declared.kinds.OldKind.TheVariants as old
use Rattle.dm_group_records.proofs.OldForms.{as_move, move_spelling, MoveFits}
use Rattle.dm_group_records.proofs.old_steps.read_old_move.Goals as goal

pub returns-in-Err : goal.returns-in-Err
returns-in-Err c = no_part old_fields (IsOfOldKind old.Move) move_spelling MoveFits as_move c.args.input.now c.read.new.input c.read.new.input c.in-Err.error c.in-Err.ensures
