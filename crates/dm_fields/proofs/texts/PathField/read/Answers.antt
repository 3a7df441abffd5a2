use Rattle.std.proofs.Common.{Err, ap, arith, subst, sym, append_assoc, length, ◌++◌, ◌∙◌}
use Rattle.dm_base.specs.Naming.{IsPath}
use Rattle.dm_fields.specs.Numbers.{big_endian}
use Rattle.dm_fields.proofs.Absent.{too_short, not_short, same_text}
use Rattle.dm_fields.proofs.texts.PathField.read.Goals as goal

pub returns-in_default : goal.returns-in_default
returns-in_default c = λ x rest fits e.
    too_short 2 (length x) c.args.input.now (x ++ rest) c.in_default.ensures (e ∙ append_assoc (big_endian 2 (length x)) x rest)

pub returns-in_default-take : goal.returns-in_default-take
returns-in_default-take c = λ x rest fits e. not_short 2 x (let f = fits.fits in omega arith) c.args.input.now c.take_be16.new.input rest c.in-Some.len c.in-Some.ensures.0 c.in-Some.ensures.1 e c.in_default-take.ensures

pub returns-in-Err-Grammar : goal.returns-in-Err-Grammar
returns-in-Err-Grammar c = λ x rest fits e.
    let same = same_text 2 x (let f = fits.fits in omega arith) c.args.input.now c.take_be16.new.input rest c.in-Some.len c.in-Some.ensures.0 c.in-Some.ensures.1 e c.in-Some-take.text.now c.take.new.self c.in-Some-take.ensures.0 c.in-Some-take.ensures.1 in
    c.in-Err-Grammar.ensures.grammar.0 (ap (λ a. Err a) c.in-Err-Grammar.field-0-is) (subst IsPath (sym same) fits)
