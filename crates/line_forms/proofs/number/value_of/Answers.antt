use Rattle.std.proofs.Common.{refl, arith}
use Rattle.line_forms.proofs.DecimalDigits.{digit-in, value-more, value-so-far}
use Rattle.line_forms.proofs.number.value_of.Goals as goal

pub overflow_mul-value : goal.overflow_mul-value
overflow_mul-value c =
    omega (arith, c.loop-digit.invariant, value-so-far c.args.digits.now c.loop-digit.digit-index c.requires.digits c.requires.short)

pub overflow_sub-digit : goal.overflow_sub-digit
overflow_sub-digit c =
    (digit-in c.args.digits.now c.loop-digit.digit-index c.requires.digits c.loop-digit-test.true).0

pub overflow_add-value : goal.overflow_add-value
overflow_add-value c =
    omega (arith, c.loop-digit.invariant, value-so-far c.args.digits.now c.loop-digit.digit-index c.requires.digits c.requires.short)

pub loop-digit-preserved : goal.loop-digit-preserved
loop-digit-preserved c =
    let more = value-more c.args.digits.now c.loop-digit.digit-index c.requires.digits c.loop-digit-test.true in
    rw (c.loop-digit.invariant, c.from.ensures, more) refl
