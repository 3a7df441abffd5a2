use Rattle.std.proofs.Common.{◌≡◌, ◌+◌, ◌*◌, ap, ◌∙◌, sym}
use Rattle.dm_durable.specs.Volumes.{weight_on}
use Rattle.dm_rules.specs.Numbers.{as_word}
use Rattle.dm_catalogue.proofs.Weighing.{weight_is, weight_narrow, front_of}
use Rattle.dm_catalogue.proofs.catalogue.Catalogue.weight.Goals as goal

pub returns : goal.returns
returns c =
    let front : c.from-front.result ≡ front_of c.args.version = c.from-front.ensures ∙ ap (λ n. 32 + n) c.chunk_header.ensures in
    let whole : c.lies-live.result.chunks * c.from-front.result + c.lies-live.result.bytes ≡ weight_on c.args.self.now.rows.rows c.args.version c.args.vsn.0 =
    (λ i. c.lies-live.ensures.chunks i * front i + c.lies-live.ensures.bytes i) ∙ sym (weight_is c.args.self.now.rows.rows c.args.version c.args.vsn.0) in
    c.narrow.ensures
    ∙ weight_narrow c.saturating_mul.result c.saturating_add.result c.lies-live.result.chunks c.from-front.result c.lies-live.result.bytes c.saturating_mul.ensures c.saturating_add.ensures
    ∙ ap as_word whole
