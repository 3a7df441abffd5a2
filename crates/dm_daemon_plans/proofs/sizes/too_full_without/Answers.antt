use Rattle.std.proofs.Common.{◌∙◌, ◌-◌, ◌+◌, ap, arith, nat_lt}
use Rattle.dm_base.specs.declared.error.DaemonError.TheVariants as error
use Rattle.dm_durable.specs.Daemon.{size_of}
use Rattle.dm_model.specs.DaemonCalls.{daemon_refusal}
use Rattle.dm_rules.specs.Numbers.{as_word}
use Rattle.dm_daemon_plans.proofs.Sums.{word_summed, passes_summed}
use Rattle.dm_daemon_plans.proofs.sizes.too_full_without.Goals as goal

pub returns : goal.returns
returns c =
    let cap = c.args.daemon.now.cap in
    let size = size_of c.args.daemon.now.tables in
    let have = c.size_of.result in
    let off = c.from.result in
    let need = c.args.need in
    let length = c.from.ensures ∙ c.length_at.ensures in
    let passes =
    c.full.ensures.passes ∙ ap (λ h. nat_lt cap (h + need)) c.saturating_sub-have.ensures
    ∙ passes_summed cap size have off need (omega arith) (omega (arith, c.from.ensures, c.length_at.type_inv)) c.size_of.ensures
    ∙ ap (λ o. nat_lt cap (size - o + need)) length in
    let told =
    c.full.ensures.error
    ∙ ap (λ h. error.Full h (as_word need) cap)
    (ap as_word c.saturating_sub-have.ensures ∙ word_summed size have off (omega (arith, c.from.ensures, c.length_at.type_inv)) c.size_of.ensures ∙ ap (λ o. as_word (size - o)) length) in
    λ i. (passes i, daemon_refusal (told i))
