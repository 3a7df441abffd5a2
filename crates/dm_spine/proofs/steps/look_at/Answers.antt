use Rattle.std.proofs.Common.{arith}
use Rattle.dm_spine.proofs.Shares.{look_said}
use Rattle.dm_spine.proofs.steps.look_at.Goals as goal

pub load-requires : goal.load-requires
load-requires g c =
    let seated = c.requires.seated in (
      seated.same,
      omega (arith, seated.counted),
      look_said g.P.Parts.meaning g.P.Parts.lawful c.args.table.now.shared.key g.W.Said.said c.args.table.now.shared.table_id.slots c.args.seat.now.id c.args.seat.now.me seated.single c.requires.key,
    )
