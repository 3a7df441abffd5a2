use Rattle.std.proofs.Common.{◌≡◌, drop}
use Rattle.dm_base.specs.Naming.{is_all_serial}
use Rattle.dm_base.proofs.serial.are_serial_bytes.Given as goal

-- what is left decides as the whole does
abbrev pub invariant-loop-byte : goal.invariant-loop-byte
invariant-loop-byte l = is_all_serial (drop l.byte-index l.text) ≡ is_all_serial l.text
