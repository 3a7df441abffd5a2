use Rattle.std.proofs.Common.{ap, arith}
use Rattle.dm_spine.specs.Passes.{parts_of, view_of, seen_by}
use Rattle.shared_tally.proofs.Additions.{may_add, totals_more}
use Rattle.shared_tally.proofs.tally.Tally.enter.Goals as goal

pub draw-requires : goal.draw-requires
draw-requires c =
    let me = c.args.me.now in
    let t = c.args.self.now in
    may_add (parts_of me) (view_of me) c.args.worker t.number t.total t.count c.args.amount c.requires.sums c.requires.keeps c.requires.known.0 c.requires.known.1 c.requires.known.2 (omega arith) (omega arith)

pub returns-clause-sums : goal.returns-clause-sums
returns-clause-sums c =
    let t = c.args.self.now in
    let seen = ap (λ v. v.seen) c.draw.ensures.drawn.after in
    let more = totals_more c.args.worker t.number t.total t.count c.args.amount c.draw.result (seen_by c.args.me.now) (omega arith) c.requires.sums in
    rw (seen, c.from.ensures) more
