use Rattle.std.proofs.Common.{◌≡◌, ◌+◌, ◌-◌, ℕ, List, Option, Some, drop, subst}
use Rattle.dm_host.specs.Disk.{Same, part}
use Rattle.dm_host.proofs.Moments.{same_after, still_told}
use Rattle.dm_ckpt.specs.Survey.{RowAt}
use Rattle.dm_ckpt.proofs.Rowing.{row_found, row_fetched}
use Rattle.dm_ckpt.proofs.loading.find_row.Goals as goal

pub returns-in_err-fetch-clause-works : goal.returns-in_err-fetch-clause-works
returns-in_err-fetch-clause-works g c = same_after Same c.args.file _ _ _ c.row_len.ensures.works c.fetch.ensures.works

pub returns-clause-works : goal.returns-clause-works
returns-clause-works g c = same_after Same c.args.file _ _ _ c.row_len.ensures.works c.fetch.ensures.works

pub returns-in_default-clause-found : goal.returns-in_default-clause-found
returns-in_default-clause-found g c = λ rows junk told at.
    let file = (g.B.Bay.disk c.args.bay.now).seen c.args.file in
    let found = c.in_ok-n.ensures.found told at.within in
    absurd (row_found rows junk c.args.place c.args.end file c.requires.within at c.in_ok-n.field-0 found c.in_default.is)

pub returns-clause-found : goal.returns-clause-found
returns-clause-found g c = λ rows junk told at.
    let a = g.B.Bay.disk c.args.bay.now in
    let b = g.B.Bay.disk c.row_len.new.bay in
    let f = c.args.file in
    let n = c.in-Some.n in
    let there : RowAt (Some n) (c.args.end - c.args.place) (drop c.args.place (a.seen f)) =
    subst (λ (o : Option ℕ). RowAt o (c.args.end - c.args.place) (drop c.args.place (a.seen f))) c.in-Some.is (c.in_ok-n.ensures.found told at.within) in
    let read : c.fetch.new.buffer.items ≡ part (a.seen f) (c.args.place + 4) n =
    subst (λ (l : List ℕ). c.fetch.new.buffer.items ≡ part l (c.args.place + 4) n) c.row_len.ensures.same
    (c.in_ok-fetch.ensures.bytes (still_told _ a b _ c.row_len.ensures.works f told)) in
    row_fetched rows junk c.args.place c.args.end (a.seen f) c.requires.within at n there c.fetch.new.buffer.items read
