use Rattle.std.proofs.Common.{◌∙◌, ◌<◌, ◌^◌, ◌-◌, [], ◌∷◌, nat_le, nat_lt, arith, ap}
use Rattle.dm_base.specs.Limits.{file_limit, number_limit}
use Rattle.dm_base.specs.declared.error.DaemonError.TheVariants as error
use Rattle.dm_daemon_refusals.proofs.Tests.{patch_tests}
use Rattle.dm_daemon_refusals.specs.Seen.{daemon_of}
use Rattle.dm_daemon_tables.specs.Tables.{state_of}
use Rattle.dm_durable.specs.Daemon.{size_of}
use Rattle.dm_model.specs.DaemonCalls.{daemon_refusal, too_many}
use Rattle.dm_model.specs.Guards.{first_true}
use Rattle.dm_daemon_refusals.proofs.files.patch_refusal.Goals as goal

pub returns-clause-first : goal.returns-clause-first
returns-clause-first c = λ path bytes offset now e l.
    let small : size_of (state_of c.args.tables.now) < 2 ^ 64 = let q = c.requires in let f = c.ranges.cap.fits in omega arith in
    c.first_error.ensures.first
    ∙ (λ i. first_true ((nat_lt file_limit c.args.end, too_many file_limit) ∷ (c.is_away.ensures i, daemon_refusal (error.WrongState c.state-found.result))
    ∷ (nat_le number_limit c.change.result, too_many number_limit) ∷ (c.too_full.ensures.test i, daemon_refusal (c.too_full.ensures.error i)) ∷ []))
    ∙ patch_tests (daemon_of c.args.tables.now c.args.requests.now c.args.cap) path offset bytes now (record { number = c.args.ino.0; inode = c.args.inode.now })
    c.state-found.result c.args.end c.args.len c.change.result c.size.result c.without_file-have.result e c.state-found.ensures l c.change.ensures
    (c.size.ensures small) (c.without_file-have.ensures ∙ ap (λ n. c.size.result - n) c.length.ensures)
