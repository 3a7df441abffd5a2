use Rattle.std.proofs.Common.{◌∙◌, sym, refl}
use Rattle.std.proofs.lemmas.Bool.{false≢true}
use Rattle.dm_config.proofs.Serials.{none_new, some_new}
use Rattle.dm_config.proofs.volumes.serial_of.Goals as goal

pub returns-in_default : goal.returns-in_default
returns-in_default c = none_new c.args.taken.now c.args.text.now (λ s. false≢true (c.in_default.ensures.grammar.1 s))

pub returns : goal.returns
returns c =
    some_new c.args.taken.now c.args.text.now c.in-Some.volume c.in-Some.ensures.is (c.in-Some.ensures.grammar.0 refl)
    (sym c.is_among.ensures ∙ c.if-is_among.false)
