use Rattle.std.proofs.Common.{rules, of_calls}
use Rattle.std.proofs.lemmas.Fn.{always_returns_same}
use Rattle.std.specs.Ordering.{nat_cmp}
use Rattle.dm_tables.proofs.Orders.{numbers}
use Rattle.dm_rows.specs.Places.{row_of}
use Rattle.dm_rows.proofs.Search.{search_answer}
use Rattle.dm_rows.proofs.numbers.place.Goals as goal

pub returns : goal.returns
returns g c =
    search_answer numbers row_of c.args.key c.args.rows.now c.requires c.binary_search_by.result c.binary_search_by.ensures.bound
    (c.binary_search_by.ensures.position (λ b. nat_cmp b.value.0 c.args.key) (always_returns_same _ _ _ (λ a r f k. search (rules, of_calls))))
