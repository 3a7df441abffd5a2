use Rattle.std.proofs.Common.{ap, ◌∙◌, nat_lt}
use Rattle.dm_catalogue.proofs.Weighing.{live_test}
use Rattle.dm_catalogue.proofs.catalogue.Catalogue.has_chunk_on.Goals as goal

pub returns : goal.returns
returns c = ap (nat_lt 0) c.lies.ensures.chunks ∙ live_test c.args.self.now.rows.rows c.args.vsn.0
