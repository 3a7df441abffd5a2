use Rattle.std.proofs.Common.{ap, ◌∙◌, sym}
use Rattle.dm_catalogue.specs.Sums.{bytes_at, chunks_at}
use Rattle.dm_catalogue.proofs.catalogue.Catalogue.lies.Goals as goal

pub returns-in-Some : goal.returns-in-Some
returns-in-Some c = record {
  chunks = ap chunks_at c.in-Some.ensures ∙ c.args.self.now.summed.chunks c.args.vsn.0;
  bytes = ap bytes_at c.in-Some.ensures ∙ c.args.self.now.summed.bytes c.args.vsn.0;
}

pub returns-in-None : goal.returns-in-None
returns-in-None c = record {
  chunks = ap chunks_at c.in-None.ensures ∙ c.args.self.now.summed.chunks c.args.vsn.0;
  bytes = ap bytes_at c.in-None.ensures ∙ c.args.self.now.summed.bytes c.args.vsn.0;
}
