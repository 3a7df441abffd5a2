use Rattle.dm_fields.proofs.PartsAbsent.{no_part}
use Rattle.dm_group_records.specs.OldSteps.{old_fields, IsOfOldKind}
use Rattle.dm_group_records.specs.declared.kinds.OldKind.TheVariants as old
use Rattle.dm_group_records.proofs.OldForms.{as_commit, commit_spelling, CommitFits, commit_read}
use Rattle.dm_group_records.proofs.old_steps.read_old_commit.Goals as goal

pub returns-in-Ok-chunks_of : goal.returns-in-Ok-chunks_of
returns-in-Ok-chunks_of c = commit_read c.in-Ok.bfid c.in-Ok.len c.in-Ok.old c.in-Ok-chunks_of.chunks c.args.input.now c.read.new.input c.in-Ok-chunks_of.ensures.ok c.in-Ok.ensures

pub returns : goal.returns
returns c = no_part old_fields (IsOfOldKind old.Commit) commit_spelling CommitFits as_commit c.args.input.now c.read.new.input c.read.new.input c.in-Err.error c.in-Err.ensures
