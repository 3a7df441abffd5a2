use Rattle.std.proofs.Common.{rules, of_calls}
use Rattle.std.proofs.lemmas.Fn.{always_returns_same}
use Rattle.std.specs.Ordering.{nat_cmp}
use Rattle.std.specs.Cmp.Lexicographic.{slice_cmp}
use Rattle.dm_tables.proofs.Orders.{paths}
use Rattle.dm_rows.specs.Places.{text_row_of}
use Rattle.dm_rows.proofs.Search.{search_answer}
use Rattle.dm_rows.proofs.texts.place.Goals as goal

pub returns : goal.returns
returns g c =
    search_answer paths (text_row_of g.K.Text.text) c.args.key.now c.args.rows.now c.requires c.binary_search_by.result c.binary_search_by.ensures.bound
    (c.binary_search_by.ensures.position (λ b. slice_cmp nat_cmp (g.K.Text.text b.value.0) c.args.key.now) (always_returns_same _ _ _ (λ a r f k. search (rules, of_calls))))
