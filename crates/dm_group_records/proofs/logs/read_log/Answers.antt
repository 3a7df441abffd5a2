use Rattle.std.proofs.Common.{true, ◌≡◌, Err, subst}
use Rattle.dm_fields.specs.declared.input.ReadError.TheVariants.{Damaged}
use Rattle.dm_fields.specs.Whole.{IsWholeRead}
use Rattle.dm_fields.proofs.Whole.{left_over, whole_absent}
use Rattle.dm_group_records.specs.Payloads.{spelling, FitsLog}
use Rattle.dm_group_records.proofs.LogForms.{log_once}
use Rattle.dm_group_records.proofs.logs.read_log.Goals as goal

pub returns-else-is_empty : goal.returns-else-is_empty
returns-else-is_empty c =
    subst (λ b. IsWholeRead spelling FitsLog b (Err Damaged)) c.of-input.ensures
    (left_over spelling FitsLog log_once c.in-Ok.payload c.of-input.result c.read_any.new.input c.in-Ok.ensures
    (λ none. let is : c.is_empty.result ≡ true = c.is_empty.ensures.1 none in cc))

pub returns-in-Err : goal.returns-in-Err
returns-in-Err c =
    subst (λ b. IsWholeRead spelling FitsLog b (Err c.in-Err.error)) c.of-input.ensures
    (whole_absent spelling FitsLog c.of-input.result c.read_any.new.input c.in-Err.error c.in-Err.ensures)
