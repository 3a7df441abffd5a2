use Rattle.dm_host.proofs.Moments.{still_told}
use Rattle.dm_journal.proofs.Appending.{alone_both, first_works, first_doubts, both_work, second_doubts, both_keep}
use Rattle.dm_journal.proofs.Outcome.{both_ok, at_err}
use Rattle.dm_journal.proofs.journal.add.Goals as goal

pub returns-in_err-write_synced-clause-err : goal.returns-in_err-write_synced-clause-err
returns-in_err-write_synced-clause-err g c = λ ps payload k fits is.
    at_err _ (first_doubts c.args.file c.args.place c.args.bytes.now ps payload fits _ _ k c.write_synced.ensures.works c.write_synced.ensures.torn)

pub returns-in_err-write_synced-clause-any_moment : goal.returns-in_err-write_synced-clause-any_moment
returns-in_err-write_synced-clause-any_moment g c = λ ps payload k fits is.
    first_works c.args.file c.args.place c.args.bytes.now ps payload fits _ _ k c.write_synced.ensures.works

pub returns-clause-others : goal.returns-clause-others
returns-clause-others g c = alone_both c.args.file _ _ _ _ _ c.write_synced.ensures.works c.write_synced-2.ensures.works

pub returns-clause-any_moment : goal.returns-clause-any_moment
returns-clause-any_moment g c = λ ps payload k fits is.
    both_work c.args.file c.args.place c.args.bytes.now ps payload fits _ _ k c.write_synced.ensures.works _ is
    (c.in_ok-write_synced.ensures.written k.told) (c.in_ok-write_synced.ensures.durable k.told) c.write_synced-2.ensures.works

pub returns-clause-err : goal.returns-clause-err
returns-clause-err g c = λ ps payload k fits is.
    at_err _ (second_doubts c.args.file c.args.place c.args.bytes.now ps payload fits _ _ k c.write_synced.ensures.works _ is
    (c.in_ok-write_synced.ensures.written k.told) (c.in_ok-write_synced.ensures.durable k.told) c.write_synced-2.ensures.works c.write_synced-2.ensures.torn)

pub returns-clause-ok : goal.returns-clause-ok
returns-clause-ok g c = λ ps payload k fits is.
    let told = still_told _ _ _ _ c.write_synced.ensures.works c.args.file k.told in
    both_ok c.write_synced-2.result (c.write_synced-2.ensures.written told) (c.write_synced-2.ensures.durable told) (λ opened only.
    both_keep c.args.file c.args.place c.args.bytes.now ps payload fits _ _ k c.write_synced.ensures.works _ is
    (c.in_ok-write_synced.ensures.written k.told) (c.in_ok-write_synced.ensures.durable k.told) c.write_synced-2.ensures.works (λ t. opened) only)
