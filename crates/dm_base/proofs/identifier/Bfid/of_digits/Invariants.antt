use Rattle.std.proofs.Common.{◌≡◌, ◌<◌, ◌^◌, take}
use Rattle.dm_base.specs.Hexadecimal.{hexadecimal}
use Rattle.dm_base.proofs.identifier.Bfid.of_digits.Given as goal

-- the digits so far are those of the value
abbrev pub invariant-loop-byte : goal.invariant-loop-byte
invariant-loop-byte l = record {
  small : l.value < 16 ^ l.byte-index;
  spelled : hexadecimal l.byte-index l.value ≡ take l.byte-index l.text;
}
