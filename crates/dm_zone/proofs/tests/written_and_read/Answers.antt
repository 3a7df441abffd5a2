use Rattle.std.proofs.Common.{◌∙◌}
use Rattle.dm_zone.proofs.tests.written_and_read.Goals as goal

pub returns : goal.returns
returns c = c.decode_zone.ensures.all _ _ c.in-Ok.ensures.grammar (c.as_slice.ensures.value ∙ c.in-Ok.ensures.spelled)
