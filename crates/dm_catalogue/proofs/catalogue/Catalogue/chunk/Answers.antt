use Rattle.std.proofs.Common.{ap, sym, ◌∙◌}
use Rattle.std.specs.FinMap as map
use Rattle.dm_catalogue.specs.Sums.{Finds, chunk_in}
use Rattle.dm_catalogue.proofs.catalogue.Catalogue.chunk.Goals as goal

pub returns-in-Some : goal.returns-in-Some
returns-in-Some c =
    let f : Finds (map.get c.args.self.now.rows.rows c.args.bfid.0) c.args.offset _ c.in-Some.chunk = c.in-Some.ensures.found in
    sym (ap (chunk_in c.args.offset) f.is ∙ f.first)
