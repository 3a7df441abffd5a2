use Rattle.std.proofs.Common.{arith}
use Rattle.dm_catalogue.proofs.Loops.{known_on, known_end, read_again}
use Rattle.dm_catalogue.proofs.Summing.{known_kept, same_refl, same_then}
use Rattle.dm_catalogue.proofs.homes.know_all.Goals as goal

pub loop-chunk-init : goal.loop-chunk-init
loop-chunk-init c = (same_refl c.args.homes.now.rows, tt)
