use Rattle.std.proofs.Common.{append_assoc, length, ◌++◌, ◌∙◌}
use Rattle.dm_fields.specs.Numbers.{big_endian}
use Rattle.dm_fields.proofs.Absent.{too_short, not_short}
use Rattle.dm_fields.proofs.texts.BytesField.read.Goals as goal

pub returns-in_default : goal.returns-in_default
returns-in_default c = λ x rest fits e.
    too_short 4 (length x) c.args.input.now (x ++ rest) c.in_default.ensures (e ∙ append_assoc (big_endian 4 (length x)) x rest)

pub returns-in_default-take : goal.returns-in_default-take
returns-in_default-take c = λ x rest fits e. not_short 4 x fits c.args.input.now c.take_be32.new.input rest c.in-Some.len c.in-Some.ensures.0 c.in-Some.ensures.1 e c.in_default-take.ensures
