use Rattle.std.proofs.Common.{◌≡◌, ◌+◌, arith, ap, sym, ◌∙◌, get_or}
use Rattle.std.proofs.lemmas.List.{drop_all}
use Rattle.std.specs.FinMap as map
use Rattle.dm_rules.specs.Known.{agrees_with_known, may_be}
use Rattle.dm_volume_plans.proofs.Known.{drop_next}
use Rattle.dm_volume_plans.proofs.Known.{on_known, not_known, end_known}
use Rattle.dm_volume_plans.proofs.reads.agrees.Goals as goal

pub loop-index-init : goal.loop-index-init
loop-index-init c = ap (λ n. agrees_with_known c.args.known.now n c.args.bytes.now) (let e : c.args.place + 0 ≡ c.args.place = omega arith in e)

pub loop-index-preserved : goal.loop-index-preserved
loop-index-preserved c =
    let i = c.loop-index.index in
    let b = get_or c.args.bytes.now i 0 in
    on_known c.args.known.now (c.args.place + i) (c.args.place + (i + 1)) _ _ b _ (drop_next c.args.bytes.now i 0 c.loop-index-test.true) (omega arith) (ap (λ p. may_be (map.get c.args.known.now (p + i)) b) (sym c.from.ensures) ∙ sym c.if-not-may_be.ensures) c.loop-index.invariant

pub returns-then-not-may_be : goal.returns-then-not-may_be
returns-then-not-may_be c =
    let i = c.loop-index.index in
    let b = get_or c.args.bytes.now i 0 in
    not_known c.args.known.now (c.args.place + i) _ _ b _ (drop_next c.args.bytes.now i 0 c.loop-index-test.true) (ap (λ p. may_be (map.get c.args.known.now (p + i)) b) (sym c.from.ensures) ∙ sym c.if-not-may_be.ensures) c.loop-index.invariant

pub returns : goal.returns
returns c = end_known c.args.known.now (c.args.place + c.loop-index.index) _ _ (drop_all c.loop-index.index c.args.bytes.now c.loop-index-test.false) c.loop-index.invariant
