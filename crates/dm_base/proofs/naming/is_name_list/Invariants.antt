use Rattle.std.proofs.Common.{◌≡◌, false, drop}
use Rattle.dm_base.specs.Naming.{is_spelled}
use Rattle.dm_base.proofs.naming.is_name_list.Given as goal

-- what is left decides as the whole does
abbrev pub invariant-loop-byte : goal.invariant-loop-byte
invariant-loop-byte l = is_spelled l.named (drop l.byte-index l.bytes) ≡ is_spelled false l.bytes
