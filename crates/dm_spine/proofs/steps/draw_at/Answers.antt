use Rattle.std.proofs.Common.{arith}
use Rattle.dm_spine.proofs.Draws.{draw_said}
use Rattle.dm_spine.proofs.steps.draw_at.Goals as goal

pub fetch_add-requires : goal.fetch_add-requires
fetch_add-requires g c =
    let seated = c.requires.seated in (
      seated.same,
      omega (arith, seated.counted),
      draw_said g.P.Parts.meaning g.P.Parts.lawful c.args.table.now.shared.key g.W.Said.said c.args.table.now.shared.table_id.slots c.args.seat.now.id c.args.seat.now.me seated.single seated.bare c.requires.may,
    )
