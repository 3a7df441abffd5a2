use Rattle.std.proofs.Common.{◌≡◌, ◌<◌, ◌^◌, take}
use Rattle.std.specs.List.{AllByRecursion}
use Rattle.std.specs.Char.{IsAsciiDigit}
use Rattle.std.specs.Str.Parse.{digits_value}
use Rattle.dm_proto.proofs.argument.number_of_digits.Given as goal

-- the bytes so far are digits, and this is their number
abbrev pub invariant-loop-digit : goal.invariant-loop-digit
invariant-loop-digit l = record {
  each : AllByRecursion IsAsciiDigit (take l.digit-index l.digits);
  small : l.number < 10 ^ l.digit-index;
  value : l.number ≡ digits_value 10 (take l.digit-index l.digits);
}
