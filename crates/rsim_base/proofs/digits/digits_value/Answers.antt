use Rattle.std.proofs.Common.{◌<◌, length, arith}
use Rattle.rsim_base.proofs.DecimalDigits.{digits_value-lt, digit_in_range, digits_value-more}
use Rattle.rsim_base.proofs.digits.digits_value.Goals as goal

pub overflow_mul-number : goal.overflow_mul-number
overflow_mul-number c =
    let bound = digits_value-lt c.args.digits.now c.loop-digit.digit-index c.requires.digits c.requires.short in
    omega (arith, bound)

pub overflow_sub-digit : goal.overflow_sub-digit
overflow_sub-digit c =
    let below : c.loop-digit.digit-index < length c.args.digits.now = omega arith in
    let range = digit_in_range c.args.digits.now c.loop-digit.digit-index c.requires.digits below in
    omega (arith, range)

pub overflow_add-number : goal.overflow_add-number
overflow_add-number c =
    let below : c.loop-digit.digit-index < length c.args.digits.now = omega arith in
    let bound = digits_value-lt c.args.digits.now c.loop-digit.digit-index c.requires.digits c.requires.short in
    let range = digit_in_range c.args.digits.now c.loop-digit.digit-index c.requires.digits below in
    omega (arith, bound, range)

pub loop-digit-preserved : goal.loop-digit-preserved
loop-digit-preserved c =
    let below : c.loop-digit.digit-index < length c.args.digits.now = omega arith in
    let more = digits_value-more c.args.digits.now c.loop-digit.digit-index c.requires.digits below in
    omega (arith, more)
