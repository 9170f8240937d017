-- Eight digits are far below 32 bits, and one digit more still fits.
use Rattle.std.proofs.Common.{arith}
use Rattle.alt_expr.proofs.Numbers.{eight_digits}
use Rattle.alt_expr.proofs.lexer.number.Goals as goal

pub overflow_mul-value : goal.overflow_mul-value
overflow_mul-value c =
    let small = eight_digits c.loop-digit.value c.loop-digit.digit-index
    c.loop-digit.invariant.bound (omega arith) in
    omega (arith, small)

pub overflow_add-value : goal.overflow_add-value
overflow_add-value c =
    let small = eight_digits c.loop-digit.value c.loop-digit.digit-index
    c.loop-digit.invariant.bound (omega arith) in
    omega (arith, small)
