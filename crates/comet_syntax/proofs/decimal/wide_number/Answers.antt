use Rattle.std.specs.Prelude.{◌≡◌, ◌<◌, ◌+◌, ◌*◌, ◌-◌, ◌^◌, slice_index, drop}
use Rattle.std.proofs.Common.{arith, ap, sym, subst, ◌∙◌}
use Rattle.comet_syntax.specs.Number.{digits_behind}
use Rattle.comet_syntax.proofs.Digits.{at_least, digit_here, digits_step, no_more_digits}
use Rattle.comet_syntax.proofs.decimal.wide_number.Goals as goal

pub returns-in_err-checked_mul : goal.returns-in_err-checked_mul
returns-in_err-checked_mul c = rw c.from_residual.ensures (λ fits. c.in_err-checked_mul.ensures (omega (arith, at_least c.args.digits.now c.loop-digit.digit-index c.loop-digit.number c.loop-digit-test.true c.loop-digit.invariant.so_far)))

pub returns-in_err-number : goal.returns-in_err-number
returns-in_err-number c = rw c.from_residual-in_err-number.ensures (λ fits. c.in_err-number.ensures (omega (arith, c.from.ensures, c.in_ok-checked_mul.ensures.1, at_least c.args.digits.now c.loop-digit.digit-index c.loop-digit.number c.loop-digit-test.true c.loop-digit.invariant.so_far)))

pub loop-digit-preserved : goal.loop-digit-preserved
loop-digit-preserved c =
    let digit = digit_here c.args.digits.now c.loop-digit.digit-index c.loop-digit-test.true c.loop-digit.invariant.digits in
    let next : c.in_ok-number.number ≡ c.loop-digit.number * 10 + (slice_index c.args.digits.now c.loop-digit.digit-index - 48) = omega (arith, c.from.ensures, c.in_ok-checked_mul.ensures.1, c.in_ok-number.ensures.1) in
    record {
      so_far = ap (λ n. digits_behind n (drop (c.loop-digit.digit-index + 1) c.args.digits.now)) next
          ∙ sym (digits_step c.args.digits.now c.loop-digit.digit-index c.loop-digit.number c.loop-digit-test.true) ∙ c.loop-digit.invariant.so_far;
      fits = omega (arith, c.in_ok-number.ensures.0, c.in_ok-number.ensures.1);
      digits = digit.1;
    }

pub returns : goal.returns
returns c =
    let same = no_more_digits c.args.digits.now c.loop-digit.digit-index c.loop-digit.number c.loop-digit-test.false c.loop-digit.invariant.so_far in
    (subst (λ n. n < 2 ^ 64) same c.loop-digit.invariant.fits, same)
