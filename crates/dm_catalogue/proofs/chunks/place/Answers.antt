use Rattle.std.proofs.Common.{rules, of_calls}
use Rattle.std.proofs.lemmas.Fn.{always_returns_same}
use Rattle.std.specs.Ordering.{nat_cmp}
use Rattle.dm_tables.proofs.Orders.{numbers}
use Rattle.dm_catalogue.specs.Sums.{by_offset}
use Rattle.dm_rows.proofs.Search.{search_answer}
use Rattle.dm_catalogue.proofs.chunks.place.Goals as goal

pub returns : goal.returns
returns c =
    search_answer numbers by_offset c.args.offset c.args.chunks.now c.requires c.binary_search_by.result c.binary_search_by.ensures.bound
    (c.binary_search_by.ensures.position (λ b. nat_cmp b.offset c.args.offset) (always_returns_same _ _ _ (λ a r f k. search (rules, of_calls))))
