use Rattle.dm_shown.proofs.ChunksRead.{chunks_right}
use Rattle.dm_shown.proofs.ChunksTold.{chunks_told}
use Rattle.dm_shown.proofs.FilesRead.{online_right, recalled_right}
use Rattle.dm_shown.proofs.NamespaceShown.{agrees_of}
use Rattle.dm_shown.proofs.PathsAlong.{begun_right}
use Rattle.dm_shown.proofs.RunsShown.{kept_first, kept_last, run_agrees}
use Rattle.dm_model.specs.Project.{plain_run, run_steps}
use Rattle.dm_shown.proofs.laws.reads_right.Goals as goal

pub returns-clause-online : goal.returns-clause-online
returns-clause-online c j ns kept same = online_right j ns (agrees_of j kept ns same)

pub returns-clause-recalled : goal.returns-clause-recalled
returns-clause-recalled c j ns kept same = recalled_right j ns kept (agrees_of j kept ns same)

pub returns-clause-chunks : goal.returns-clause-chunks
returns-clause-chunks c j kept = chunks_right j kept

pub returns-clause-online_after : goal.returns-clause-online_after
returns-clause-online_after c j entries k ns kept run same =
    online_right k (plain_run (run_steps j entries) ns) (run_agrees j entries k ns kept run (agrees_of j (kept_first j entries kept) ns same))

pub returns-clause-recalled_after : goal.returns-clause-recalled_after
returns-clause-recalled_after c j entries k ns kept run same =
    recalled_right k (plain_run (run_steps j entries) ns) (kept_last j entries k kept run)
    (run_agrees j entries k ns kept run (agrees_of j (kept_first j entries kept) ns same))

pub returns-clause-asked : goal.returns-clause-asked
returns-clause-asked c j begun k after v w request number len path b groups entries bytes given now ns is kept on run ended same =
    begun_right path request j v begun number len b groups is entries k ns kept on run (agrees_of k (kept_last begun entries k kept run) ns same) w bytes
    given now after ended

pub returns-clause-told : goal.returns-clause-told
returns-clause-told c j kept = chunks_told j kept
