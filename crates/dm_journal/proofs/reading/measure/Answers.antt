use Rattle.std.proofs.Common.{inl, inr, get_or, ◌∙◌, ap, arith, List, ℕ}
use Rattle.dm_journal.proofs.Outcome.{of_ok}
use Rattle.dm_journal.proofs.Measuring.{first_of_five, reading_ends, damaged}
use Rattle.dm_journal.proofs.reading.measure.Goals as goal

pub returns-then-header-ne-OPEN-clause-found : goal.returns-then-header-ne-OPEN-clause-found
returns-then-header-ne-OPEN-clause-found g c = λ ps r.
    reading_ends c.args.file c.args.place 0 c.args.end ps _ _ r c.read.ensures.works c.read.ensures.same
    (λ is_open. c.if-header-ne-OPEN.true (ap (λ (l : List ℕ). get_or l 0 0) (of_ok c.read.result c.in_ok-map_err.ensures.variant (c.read.ensures.bytes r.told)) ∙ first_of_five ((g.B.Bay.disk c.args.bay.now).seen c.args.file) c.args.place ∙ is_open))

pub returns-then-n-gt-MAX_PAYLOAD-clause-damaged : goal.returns-then-n-gt-MAX_PAYLOAD-clause-damaged
returns-then-n-gt-MAX_PAYLOAD-clause-damaged g c = λ ps r f p is.
    damaged c.args.file c.args.place 0 c.args.end ps _ r _ c.number-n.result (of_ok c.read.result c.in_ok-map_err.ensures.variant (c.read.ensures.bytes r.told)) c.if-header-ne-OPEN.false
    c.number-n.ensures.back c.number-n.ensures.range (inl (omega arith))

pub returns-then-n-end-clause-damaged : goal.returns-then-n-end-clause-damaged
returns-then-n-end-clause-damaged g c = λ ps r f p is.
    damaged c.args.file c.args.place 0 c.args.end ps _ r _ c.number-n.result (of_ok c.read.result c.in_ok-map_err.ensures.variant (c.read.ensures.bytes r.told)) c.if-header-ne-OPEN.false
    c.number-n.ensures.back c.number-n.ensures.range (inr (omega arith))
