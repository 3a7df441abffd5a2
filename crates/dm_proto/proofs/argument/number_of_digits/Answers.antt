use Rattle.std.proofs.Common.{◌+◌, ◌-◌, ◌*◌, ℕ, get_or, sym, ◌∙◌, ap, arith}
use Rattle.std.proofs.lemmas.Bool.{MatchBool-at_true}
use Rattle.std.specs.Char.{IsAsciiDigit}
use Rattle.dm_proto.proofs.Numbers.{pow_more, pow_fits, digits_push, value_push}
use Rattle.dm_proto.proofs.argument.number_of_digits.Goals as goal

pub overflow_mul-number : goal.overflow_mul-number
overflow_mul-number c = omega (arith, pow_fits c.loop-digit.digit-index (omega arith))

pub overflow_add-number : goal.overflow_add-number
overflow_add-number c =
    let digit : IsAsciiDigit (get_or c.args.digits.now c.loop-digit.digit-index 0) = MatchBool-at_true _ _ c.if-not-is_ascii_digit.false c.is_ascii_digit.ensures.cases in
    omega (arith, digit, c.from.ensures, pow_fits c.loop-digit.digit-index (omega arith))

pub loop-digit-preserved : goal.loop-digit-preserved
loop-digit-preserved c =
    let i = c.loop-digit.digit-index in
    let digits = c.args.digits.now in
    let digit : IsAsciiDigit (get_or digits i 0) = MatchBool-at_true _ _ c.if-not-is_ascii_digit.false c.is_ascii_digit.ensures.cases in
    record {
      each = digits_push digits i c.loop-digit-test.true c.loop-digit.invariant.each digit;
      small = omega (arith, digit, c.from.ensures, pow_more i);
      value = ap (λ (x : ℕ). c.loop-digit.number * 10 + x) c.from.ensures
          ∙ ap (λ (x : ℕ). x * 10 + (get_or digits i 0 - 48)) c.loop-digit.invariant.value
          ∙ sym (value_push digits i c.loop-digit-test.true digit);
    }
