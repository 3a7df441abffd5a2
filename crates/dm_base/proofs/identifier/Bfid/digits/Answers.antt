use Rattle.std.proofs.Common.{◌∙◌, sym, arith, rules}
use Rattle.dm_base.proofs.Digits.{digit_written, hexadecimal-zero}
use Rattle.dm_base.proofs.identifier.Bfid.digits.Goals as goal

pub loop-written-preserved : goal.loop-written-preserved
loop-written-preserved c = record {
  all = search rules;
  digits =
      digit_written c.loop-written.written c.loop-written.rest _ c.loop-written.digits c.loop-written-test.true c.loop-written.invariant.all c.hexadecimal_digit.ensures
      ∙ c.loop-written.invariant.digits;
}

pub returns : goal.returns
returns c = sym (hexadecimal-zero _ _ _ (omega arith)) ∙ c.loop-written.invariant.digits
