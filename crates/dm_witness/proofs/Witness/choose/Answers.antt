use Rattle.std.proofs.Common.{Some, arith}
use Rattle.atomic_table.specs.Table.Act.{keeps}
use Rattle.dm_witness.proofs.Chosen.{there_fits}
use Rattle.dm_witness.proofs.Witness.choose.Goals as goal

pub load-requires : goal.load-requires
load-requires g c =
    let made = c.in_ok-table.ensures in (
      made.2,
      (let one = made.0 in omega (arith, one)),
      λ s h n at lt. (Some c.requires.0, keeps, tt, tt, c.requires.1),
    )

pub returns : goal.returns
returns g c = there_fits g.W.Asked.fits c.load.new.seat.me.0 _ c.load.ensures.2
