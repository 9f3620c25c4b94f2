use Rattle.std.proofs.Common.{arith}
use Rattle.std.proofs.lemmas.List.{length-take}
use Rattle.std.proofs.lemmas.Int.Digits.{digits_value_more}
use Rattle.lra_wire.proofs.FieldLemmas.{short_number, digit_byte}
use Rattle.lra_wire.proofs.fields.number.Goals as goal

pub overflow_mul-number : goal.overflow_mul-number
overflow_mul-number c =
    let short = short_number c.loop-digit.digit-index c.args.digits.now c.requires.digits
    (omega (arith, length-take c.loop-digit.digit-index c.args.digits.now)) in
    omega arith

pub overflow_add-number : goal.overflow_add-number
overflow_add-number c =
    let short = short_number c.loop-digit.digit-index c.args.digits.now c.requires.digits
    (omega (arith, length-take c.loop-digit.digit-index c.args.digits.now)) in
    let digit = digit_byte c.loop-digit.digit-index c.args.digits.now c.requires.digits c.loop-digit-test.true in
    omega arith

pub loop-digit-preserved : goal.loop-digit-preserved
loop-digit-preserved c =
    let digit = digit_byte c.loop-digit.digit-index c.args.digits.now c.requires.digits c.loop-digit-test.true in
    let more = digits_value_more 10 c.args.digits.now c.loop-digit.digit-index c.loop-digit-test.true in
    let e = c.loop-digit.invariant in
    omega (arith, digit, more, e)
