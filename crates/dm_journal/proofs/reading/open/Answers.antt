use Rattle.std.proofs.Common.{◌≤◌, length, sym, ◌∙◌, ap, arith}
use Rattle.dm_host.proofs.Moments.{still_told}
use Rattle.dm_journal.proofs.Appending.{alone_both}
use Rattle.dm_journal.proofs.Opening.{reading_start, opens_written}
use Rattle.dm_journal.proofs.reading.open.Goals as goal

pub returns-then-len-gt1-clause-reading : goal.returns-then-len-gt1-clause-reading
returns-then-len-gt1-clause-reading g c = λ told.
    reading_start c.args.file _ (still_told _ _ _ _ c.synced_len.ensures.works c.args.file told) _
    (c.in_ok-len.ensures.len told ∙ ap length (sym c.synced_len.ensures.same)) (omega (arith, c.if-len-gt1.true)) (c.in_ok-len.ensures.durable told)

pub returns-in_err-write_synced-clause-any_moment : goal.returns-in_err-write_synced-clause-any_moment
returns-in_err-write_synced-clause-any_moment g c = λ told.
    let short : length ((g.B.Bay.disk c.synced_len.new.bay).seen c.args.file) ≤ 1 =
    omega (arith, ap length c.synced_len.ensures.same, c.in_ok-len.ensures.len told, c.if-len-gt1.false) in
    opens_written c.args.file _ _ _ c.synced_len.ensures.works short (c.in_ok-len.ensures.durable told) c.write_synced.ensures.works

pub returns-clause-any_moment : goal.returns-clause-any_moment
returns-clause-any_moment g c = λ told.
    let short : length ((g.B.Bay.disk c.synced_len.new.bay).seen c.args.file) ≤ 1 =
    omega (arith, ap length c.synced_len.ensures.same, c.in_ok-len.ensures.len told, c.if-len-gt1.false) in
    opens_written c.args.file _ _ _ c.synced_len.ensures.works short (c.in_ok-len.ensures.durable told) c.write_synced.ensures.works

pub returns-in_err-write_synced-clause-others : goal.returns-in_err-write_synced-clause-others
returns-in_err-write_synced-clause-others g c = alone_both c.args.file _ _ _ _ _ c.synced_len.ensures.works c.write_synced.ensures.works

pub returns-clause-others : goal.returns-clause-others
returns-clause-others g c = alone_both c.args.file _ _ _ _ _ c.synced_len.ensures.works c.write_synced.ensures.works
