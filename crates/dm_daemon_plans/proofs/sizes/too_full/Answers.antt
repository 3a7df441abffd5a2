use Rattle.std.proofs.Common.{◌∙◌, ap, arith}
use Rattle.dm_base.specs.declared.error.DaemonError.TheVariants as error
use Rattle.dm_durable.specs.Daemon.{size_of}
use Rattle.dm_model.specs.DaemonCalls.{daemon_refusal}
use Rattle.dm_rules.specs.Numbers.{as_word}
use Rattle.dm_daemon_plans.proofs.Sums.{word_all, passes_all}
use Rattle.dm_daemon_plans.proofs.sizes.too_full.Goals as goal

pub returns : goal.returns
returns c =
    let cap = c.args.daemon.now.cap in
    let size = size_of c.args.daemon.now.tables in
    let have = c.size_of.result in
    let need = c.args.need in
    let passes = c.full.ensures.passes ∙ passes_all cap size have need (omega arith) c.size_of.ensures in
    let told = c.full.ensures.error ∙ ap (λ h. error.Full h (as_word need) cap) (word_all size have c.size_of.ensures) in
    λ i. (passes i, daemon_refusal (told i))
