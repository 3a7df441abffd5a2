use Rattle.std.proofs.Common.{◌≡◌, ◌+◌, ◌*◌, ℕ, List, get_or, length, sym, ◌∙◌, ap, arith, lit<}
use Rattle.std.proofs.lemmas.List.{take_all}
use Rattle.dm_base.specs.Hexadecimal.{hexadecimal}
use Rattle.dm_base.proofs.Digits.{length-hexadecimal, hexadecimal-none, digits_more, digit_in, power_fits, power_more}
use Rattle.dm_base.proofs.identifier.Bfid.of_digits.Goals as goal

pub returns-then-text-ne-BFID_DIGITS-clause-none : goal.returns-then-text-ne-BFID_DIGITS-clause-none
returns-then-text-ne-BFID_DIGITS-clause-none c n e = c.if-text-ne-BFID_DIGITS.true (sym (ap length e) ∙ length-hexadecimal 32 n)

pub loop-byte-init : goal.loop-byte-init
loop-byte-init c = record { small = lit< tt; spelled = hexadecimal-none 0 }

pub returns-in_default-clause-none : goal.returns-in_default-clause-none
returns-in_default-clause-none c n e =
    let i = c.loop-byte.byte-index in
    let d = digit_in 32 n i (omega (arith, c.loop-byte-test.true, c.if-text-ne-BFID_DIGITS.false)) in
    c.in_default.ensures.none d.value d.small (sym d.is ∙ ap (λ (t : List ℕ). get_or t i 0) e)

pub overflow_mul-value : goal.overflow_mul-value
overflow_mul-value c =
    let i = c.loop-byte.byte-index in
    omega (arith, c.loop-byte.invariant.small, power_fits i (omega (arith, c.loop-byte-test.true, c.if-text-ne-BFID_DIGITS.false)))

pub overflow_add-value : goal.overflow_add-value
overflow_add-value c =
    let i = c.loop-byte.byte-index in
    omega (arith, c.loop-byte.invariant.small, c.in-Some.ensures.small, c.from.ensures, power_fits i (omega (arith, c.loop-byte-test.true, c.if-text-ne-BFID_DIGITS.false)))

pub loop-byte-preserved : goal.loop-byte-preserved
loop-byte-preserved c =
    let i = c.loop-byte.byte-index in
    let text = c.args.text.now in
    record {
      small = omega (arith, c.loop-byte.invariant.small, c.in-Some.ensures.small, c.from.ensures, power_more i);
      spelled = ap (λ (x : ℕ). hexadecimal (i + 1) (c.loop-byte.value * 16 + x)) c.from.ensures
          ∙ digits_more text i c.loop-byte.value c.in-Some.digit c.loop-byte-test.true c.in-Some.ensures.small c.in-Some.ensures.spelled c.loop-byte.invariant.spelled;
    }

pub returns-clause-spelled : goal.returns-clause-spelled
returns-clause-spelled c =
    let all : c.loop-byte.byte-index ≡ 32 = omega arith in
    ap (λ (k : ℕ). hexadecimal k c.loop-byte.value) (sym all) ∙ c.loop-byte.invariant.spelled
    ∙ take_all c.loop-byte.byte-index c.args.text.now c.loop-byte-test.false
