use Rattle.std.proofs.Common.{Err, ap, subst, sym}
use Rattle.dm_base.specs.Naming.{IsDumpName}
use Rattle.dm_fields.proofs.Absent.{same_name}
use Rattle.dm_fields.proofs.texts.DumpNameField.read.Goals as goal

pub returns-in-Err-Grammar : goal.returns-in-Err-Grammar
returns-in-Err-Grammar c = λ x rest fits e.
    let same = same_name x c.args.input.now c.take_byte.new.input rest c.in-Some.len c.in-Some.ensures.1 e c.in-Some-take.text.now c.take.new.self c.in-Some-take.ensures.0 c.in-Some-take.ensures.1 in
    c.in-Err-Grammar.ensures.grammar.0 (ap (λ a. Err a) c.in-Err-Grammar.field-0-is) (subst IsDumpName (sym same) fits)
