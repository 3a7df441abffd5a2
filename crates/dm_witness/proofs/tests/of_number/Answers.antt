use Rattle.std.proofs.Common.{refl}
use Rattle.dm_witness.proofs.tests.of_number.Goals as goal

pub choose-requires : goal.choose-requires
choose-requires c = (c.args.number.now, refl)
