use Rattle.std.proofs.Common.{◌∙◌, sym, refl}
use Rattle.std.proofs.lemmas.Bool.{false≢true}
use Rattle.dm_base.proofs.Names.{all_serial, all_serial_back}
use Rattle.dm_base.proofs.serial.Vsn.of_bytes.Goals as goal

pub returns-then-are_serial_bytes-clause-grammar : goal.returns-then-are_serial_bytes-clause-grammar
returns-then-are_serial_bytes-clause-grammar c = (
  λ t. record { six = c.if-text-ne-VSN_LENGTH.false; bytes = all_serial _ (sym c.are_serial_bytes.ensures ∙ c.if-are_serial_bytes.true) },
  λ d. refl,
)

pub returns-else-are_serial_bytes-clause-grammar : goal.returns-else-are_serial_bytes-clause-grammar
returns-else-are_serial_bytes-clause-grammar c = (
  λ t. absurd (false≢true t),
  λ d. sym c.if-are_serial_bytes.false ∙ c.are_serial_bytes.ensures ∙ all_serial_back _ d.bytes,
)
