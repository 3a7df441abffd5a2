use Rattle.std.proofs.Common.{refl, rules}
use Rattle.dm_ckpt.proofs.Headers.{header_read}
use Rattle.dm_ckpt.proofs.survey.header_of.Goals as goal

pub returns : goal.returns
returns c = header_read c.args.b.now _ c.number_of.result c.number_of-2.result (search rules) refl c.number_of.ensures c.number_of-2.ensures
