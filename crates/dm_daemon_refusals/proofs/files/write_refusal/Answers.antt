use Rattle.std.proofs.Common.{◌∙◌, ◌<◌, ◌^◌, [], ◌∷◌, nat_le, nat_lt, arith}
use Rattle.dm_base.specs.Limits.{file_limit, files_limit, number_limit}
use Rattle.dm_daemon_refusals.proofs.Tests.{write_tests}
use Rattle.dm_daemon_refusals.specs.Seen.{daemon_of}
use Rattle.dm_daemon_tables.specs.Tables.{state_of}
use Rattle.dm_durable.specs.Daemon.{size_of}
use Rattle.dm_model.specs.DaemonCalls.{daemon_refusal, too_many}
use Rattle.dm_model.specs.Guards.{first_true}
use Rattle.dm_daemon_refusals.proofs.files.write_refusal.Goals as goal

pub returns-clause-first : goal.returns-clause-first
returns-clause-first c = λ requests path bytes now o is l.
    let small : size_of (state_of c.args.tables.now) < 2 ^ 64 = let q = c.requires in let f = c.ranges.cap.fits in omega arith in
    c.first_error.ensures.first
    ∙ (λ i. first_true ((nat_lt file_limit c.args.len, too_many file_limit) ∷ (c.lacks_name.ensures i, too_many files_limit)
    ∷ (nat_le number_limit c.change.result, too_many number_limit) ∷ (c.too_full.ensures.test i, daemon_refusal (c.too_full.ensures.error i)) ∷ []))
    ∙ write_tests (daemon_of c.args.tables.now requests c.args.cap) path bytes now o c.args.old c.args.len c.files.result c.change.result c.size.result
    c.without_file-have.result is l c.files.ensures c.change.ensures (c.size.ensures small) c.without_file-have.ensures
