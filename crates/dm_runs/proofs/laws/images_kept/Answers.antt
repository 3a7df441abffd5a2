use Rattle.dm_runs.proofs.ImagesKept.{run_images}
use Rattle.dm_runs.proofs.laws.images_kept.Goals as goal

pub returns : goal.returns
returns c = record { images = λ j entries k opened run. run_images j entries k opened run }
