use Rattle.std.proofs.Common.{ap, sym, ◌∙◌, eqb-true, eq-eqb}
use Rattle.std.specs.FinMap.{len, empty_of_len, len-empty}
use Rattle.dm_rows.proofs.numbers.NumberRows.is_empty.Goals as goal

pub returns : goal.returns
returns g c = (
  λ none. empty_of_len _ (sym c.len.ensures.len ∙ eqb-true _ _ none),
  λ none. eq-eqb _ _ (c.len.ensures.len ∙ ap len none ∙ len-empty _ _),
)
