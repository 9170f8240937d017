use Rattle.std.proofs.Common.{ℕ, ◌<◌, ◌^◌, get_or, arith}
use Rattle.std.proofs.lemmas.Nat.{pow-add}
use Rattle.std.proofs.lemmas.Int.Digits.{digits_value_more}
use Rattle.alt_decimal.proofs.Widths.{ten_pow-le}
use Rattle.alt_decimal.proofs.Values.{digit_is, AllDigits-at}
use Rattle.alt_decimal.proofs.digits.half_value.Goals as goal

below_top : (v i : ℕ) → v < 10 ^ i → i < 19 → v < 10 ^ 18
below_top v i below h = omega (arith, ten_pow-le i 18 (omega arith))

pub overflow_mul-value : goal.overflow_mul-value
overflow_mul-value c =
    omega (
      arith,
      below_top c.loop-digit.value c.loop-digit.digit-index c.loop-digit.invariant.below
          (omega (arith, c.requires.few)),
    )

pub overflow_sub-value : goal.overflow_sub-value
overflow_sub-value c =
    let i = c.loop-digit.digit-index in
    omega (
      arith,
      digit_is (get_or c.args.digits.now i 0)
          (AllDigits-at c.args.digits.now i c.requires.digits (omega arith)),
    )

pub overflow_add-value : goal.overflow_add-value
overflow_add-value c =
    let i = c.loop-digit.digit-index in
    let digit = AllDigits-at c.args.digits.now i c.requires.digits (omega arith) in
    omega (
      arith,
      digit,
      digit_is (get_or c.args.digits.now i 0) digit,
      below_top c.loop-digit.value i c.loop-digit.invariant.below (omega (arith, c.requires.few)),
    )

pub loop-digit-preserved : goal.loop-digit-preserved
loop-digit-preserved c =
    let i = c.loop-digit.digit-index in
    let digit = AllDigits-at c.args.digits.now i c.requires.digits (omega arith) in
    record {
      value = omega (
        arith,
        digits_value_more 10 c.args.digits.now i (omega arith),
        digit_is (get_or c.args.digits.now i 0) digit,
        c.loop-digit.invariant.value,
      );
      below = omega (
        arith,
        digit,
        digit_is (get_or c.args.digits.now i 0) digit,
        c.loop-digit.invariant.below,
        pow-add 10 i 1,
      );
    }
