use Rattle.std.proofs.Common.{◌∙◌, arith}
use Rattle.dm_spine.proofs.Shares.{joins_said, settle_said, settled}
use Rattle.dm_spine.proofs.steps.join_at.Goals as goal

pub join_seat-requires : goal.join_seat-requires
join_seat-requires g c =
    let seated = c.requires.seated in
    let other = c.requires.other_seated in (
      seated.same,
      other.same,
      other.bare,
      omega (arith, seated.counted),
      joins_said g.P.Parts.meaning g.P.Parts.lawful c.args.table.now.shared.key c.args.seat.now.id c.args.other.id c.args.seat.now.me.0 c.args.other.me.0 seated.single other.single,
    )

pub load-requires : goal.load-requires
load-requires g c =
    let seated = c.requires.seated in
    let other = c.requires.other_seated in
    let after = c.join_seat.ensures in (
      after.0 ∙ seated.same,
      omega (arith, seated.counted),
      settle_said g.P.Parts.meaning g.P.Parts.lawful c.args.table.now.shared.key g.W.Said.said c.args.table.now.shared.table_id.slots c.join_seat.new.seat.id c.join_seat.new.seat.me c.args.seat.now.me.0 c.args.other.me.0 c.args.seat.now.me.1 after.2 seated.single other.single seated.bare c.requires.key,
    )

pub returns-clause-seated : goal.returns-clause-seated
returns-clause-seated g c =
    let seated = c.requires.seated in
    let other = c.requires.other_seated in
    let after = c.join_seat.ensures in
    let t = settled g.P.Parts.meaning g.P.Parts.lawful c.args.table.now.shared.key g.W.Said.said c.join_seat.new.seat.me c.load.new.seat.me c.args.seat.now.me.0 c.args.other.me.0 c.args.seat.now.me.1 after.2 seated.single other.single c.requires.key c.load.ensures.2 in
    record { same = c.load.ensures.0 ∙ (after.0 ∙ seated.same); counted = seated.counted; bare = t.0; single = t.1 }
