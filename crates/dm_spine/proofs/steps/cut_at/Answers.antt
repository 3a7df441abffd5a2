use Rattle.std.proofs.Common.{arith}
use Rattle.dm_spine.proofs.Shares.{cut_said}
use Rattle.dm_spine.proofs.steps.cut_at.Goals as goal

pub split_seat-requires : goal.split_seat-requires
split_seat-requires g c =
    let seated = c.requires.seated in (
      seated.same,
      omega (arith, seated.counted),
      cut_said g.P.Parts.meaning g.P.Parts.lawful c.args.table.now.shared.key g.W.Said.said c.args.seat.now.id c.args.seat.now.me.0 seated.single c.requires.keeps,
    )
