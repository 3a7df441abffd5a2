use Rattle.std.proofs.Common.{false, true, ◌≡◌, sym, subst, ◌∙◌}
use Rattle.dm_base.specs.Naming.{IsSerial}
use Rattle.dm_fields.specs.Once.{front_once}
use Rattle.dm_fields.proofs.scalars.VsnField.read.Goals as goal

pub returns-in-None : goal.returns-in-None
returns-in-None c = λ x rest fits e.
    let same = (front_once x.0 c.in-Some.text.now rest c.take.new.self (fits.six ∙ sym c.in-Some.ensures.0) (sym e ∙ c.in-Some.ensures.1)).0 in
    let impossible : false ≡ true = c.in-None.ensures.grammar.1 (subst IsSerial same fits) in
    cc
