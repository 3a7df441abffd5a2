use Rattle.std.proofs.Common.{true, ◌≡◌, Err, subst}
use Rattle.dm_durable.specs.Fields.{FitsRow}
use Rattle.dm_fields.specs.declared.input.ReadError.TheVariants.{Damaged}
use Rattle.dm_records.specs.Rows.{row_spelling}
use Rattle.dm_fields.specs.Whole.{IsWholeRead}
use Rattle.dm_fields.proofs.Whole.{left_over, whole_absent}
use Rattle.dm_records.proofs.RowOnce.{row_once}
use Rattle.dm_records.proofs.rows.read_row.Goals as goal

pub returns-else-is_empty : goal.returns-else-is_empty
returns-else-is_empty c =
    subst (λ b. IsWholeRead row_spelling FitsRow b (Err Damaged)) c.of-input.ensures
    (left_over row_spelling FitsRow row_once c.in-Ok.row c.of-input.result c.read_any_row.new.input c.in-Ok.ensures
    (λ none. let is : c.is_empty.result ≡ true = c.is_empty.ensures.1 none in cc))

pub returns-in-Err : goal.returns-in-Err
returns-in-Err c =
    subst (λ b. IsWholeRead row_spelling FitsRow b (Err c.in-Err.error)) c.of-input.ensures
    (whole_absent row_spelling FitsRow c.of-input.result c.read_any_row.new.input c.in-Err.error c.in-Err.ensures)
