use Rattle.std.proofs.Common.{◌≡◌, ◌++◌, ◌-◌, drop, length}
use Rattle.dm_base.specs.Hexadecimal.{hexadecimal}
use Rattle.dm_base.proofs.identifier.Bfid.digits.Given as goal

-- the digits that are left to write, and those that stand
abbrev pub invariant-loop-written : goal.invariant-loop-written
invariant-loop-written l = record {
  all : length l.digits ≡ 32;
  digits : hexadecimal (32 - l.written) l.rest ++ drop (32 - l.written) l.digits ≡ hexadecimal 32 l.fn.self.0;
}
