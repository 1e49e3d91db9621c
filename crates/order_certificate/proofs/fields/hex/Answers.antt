use Rattle.std.proofs.Common.{◌≡◌, ◌<◌, ◌≤◌, length, get_or, None, Some, sym, ◌∙◌, arith, rules}
use Rattle.order_certificate.specs.Fields.{hex_digit}
use Rattle.order_certificate.proofs.HexDigits.{hex_from_more, hex_from_none, hex_from_end, longer_fits, fits_64}
use Rattle.order_certificate.proofs.fields.hex.Goals as goal

pub overflow_mul-number : goal.overflow_mul-number
overflow_mul-number c = omega (arith, fits_64 c.loop-digit.digit-index c.loop-digit.number 0 c.loop-digit.invariant.fits (omega arith) (omega arith))

pub overflow_add-number : goal.overflow_add-number
overflow_add-number c = omega (arith, fits_64 c.loop-digit.digit-index c.loop-digit.number c.in_ok-number.field-0 c.loop-digit.invariant.fits (omega arith) c.in_ok-number.ensures.small)

pub returns-in_err-number : goal.returns-in_err-number
returns-in_err-number c =
    let ds = c.args.digits.now in
    let i = c.loop-digit.digit-index in
    let below : i < length ds = omega arith in
    let none : hex_digit (get_or ds i 0) ≡ None = search rules in
    let result : c.from_residual.result ≡ None = search rules in
    result ∙ sym (hex_from_none ds i c.loop-digit.number below none) ∙ c.loop-digit.invariant.same

pub loop-digit-preserved : goal.loop-digit-preserved
loop-digit-preserved c =
    let ds = c.args.digits.now in
    let i = c.loop-digit.digit-index in
    let below : i < length ds = omega arith in
    let found : hex_digit (get_or ds i 0) ≡ Some c.in_ok-number.field-0 = search rules in
    record {
      fits = longer_fits i c.loop-digit.number c.in_ok-number.field-0 c.loop-digit.invariant.fits c.in_ok-number.ensures.small;
      same = sym (hex_from_more ds i c.loop-digit.number c.in_ok-number.field-0 below found) ∙ c.loop-digit.invariant.same;
    }

pub returns : goal.returns
returns c =
    let past : length c.args.digits.now ≤ c.loop-digit.digit-index = omega arith in
    sym (hex_from_end c.args.digits.now c.loop-digit.digit-index c.loop-digit.number past) ∙ c.loop-digit.invariant.same
