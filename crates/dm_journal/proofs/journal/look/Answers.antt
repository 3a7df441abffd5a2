use Rattle.std.proofs.Common.{◌≡◌, ◌+◌, ◌-◌, ◌≤◌, ◌^◌, true, leb, get_or, sym, ◌∙◌, arith}
use Rattle.std.proofs.lemmas.Bool.{le-leb}
use Rattle.dm_journal.proofs.Healing.{doubts_still, landed_within, landed_at}
use Rattle.dm_journal.proofs.Outcome.{at_err}
use Rattle.dm_journal.proofs.journal.look.Goals as goal

pub returns-in_err-gate-clause-err : goal.returns-in_err-gate-clause-err
returns-in_err-gate-clause-err g c = λ ps payload k.
    at_err _ (doubts_still c.args.file c.args.place c.args.n ps payload _ _ k c.read_synced.ensures.works c.read_synced.ensures.same)

pub returns-then-gate-eq-OPEN-clause-ok : goal.returns-then-gate-eq-OPEN-clause-ok
returns-then-gate-eq-OPEN-clause-ok g c = λ ps payload k.
    let is_open : get_or ((g.B.Bay.disk c.args.bay.now).seen c.args.file) c.args.place 0 ≡ 1 = sym (c.in_ok-gate.ensures.byte k.told) ∙ c.if-gate-eq-OPEN.true in
    let within : c.args.place + (c.args.n + 6) ≤ 2 ^ 62 =
    landed_within c.args.file c.args.place c.args.n ps payload _ _ k c.read_synced.ensures.works c.read_synced.ensures.same is_open (g.met.B.Bay.bounded c.args.bay.now c.args.file k.told) in
    let landed : leb (c.args.n + 6) (4611686018427387904 - c.args.place) ≡ true = le-leb _ _ (omega arith) in
    landed_at c.args.file c.args.place c.args.n ps payload _ _ k c.read_synced.ensures.works c.read_synced.ensures.same (c.in_ok-gate.ensures.durable k.told) _ landed is_open
