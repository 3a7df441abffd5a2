use Rattle.dm_invariant.proofs.KeptSound.{copies_sound, kept_fits, kept_sound}
use Rattle.dm_runs.proofs.ImagesKept.{run_images, volumes_imaged}
use Rattle.dm_runs.proofs.RunsEnd.{run_ends}
use Rattle.dm_runs.proofs.laws.sound_kept.Goals as goal

pub returns-clause-kept : goal.returns-clause-kept
returns-clause-kept c j entries k opened apart run = run_ends j entries k opened apart run

pub returns-clause-sound : goal.returns-clause-sound
returns-clause-sound c j entries k opened apart run = kept_sound k (run_ends j entries k opened apart run)

pub returns-clause-fits : goal.returns-clause-fits
returns-clause-fits c j entries k opened apart run = kept_fits k (run_ends j entries k opened apart run)

pub returns-clause-copies : goal.returns-clause-copies
returns-clause-copies c j entries k opened apart run = copies_sound k (kept_sound k (run_ends j entries k opened apart run))

pub returns-clause-volumes : goal.returns-clause-volumes
returns-clause-volumes c j entries k opened apart run =
    volumes_imaged k (run_ends j entries k opened apart run) (run_images j entries k opened run)
