use Rattle.std.proofs.Common.{◌≡◌, ◌<◌, ◌+◌, sym, arith, ℕ, length}
use Rattle.std.proofs.lemmas.Bool.{eqb-true, eqb-false}
use Rattle.alt_decimal.proofs.Reading.{AllDigits-fraction_of, AllDigits-exponent, found_empty, found_broken, found}
use Rattle.alt_decimal.proofs.TextParts.{AllDigits-front_digits}
use Rattle.alt_decimal.proofs.Decimal.parse.Goals as goal
use Rattle.alt_decimal.proofs.Decimal.parse.Goals.{else-is_empty-via-then-is_empty+else-is_empty-2, else-is_empty-via-else-is_empty}

some_first : (m n : ℕ) → (m ≡ 0 → ⊥) → 0 < m + n
some_first m n h = omega (arith, h)

some_second : (m n : ℕ) → (n ≡ 0 → ⊥) → 0 < m + n
some_second m n h = omega (arith, h)

pub returns-then-is_empty-2 : goal.returns-then-is_empty-2
returns-then-is_empty-2 c = record {
  reads = found_empty c.args.text.now _ _ _ _ _ c.split_sign-negative.ensures.rest
      c.split_digits.ensures.digits c.split_digits.ensures.rest
      c.split_fraction.ensures.digits c.split_fraction.ensures.rest
      (eqb-true _ 0 (sym c.if-is_empty.ensures)) (eqb-true _ 0 (sym c.if-is_empty-2.ensures));
}

pub number-requires-clause-whole_digits : goal.number-requires-clause-whole_digits
number-requires-clause-whole_digits c = rw c.split_digits.ensures.digits
    (AllDigits-front_digits c.split_sign-negative.result.1.now)

pub number-requires-clause-fraction_digits : goal.number-requires-clause-fraction_digits
number-requires-clause-fraction_digits c = rw c.split_fraction.ensures.digits
    (AllDigits-fraction_of c.split_digits.result.1.now)

pub number-requires-clause-exponent_digits : goal.number-requires-clause-exponent_digits
number-requires-clause-exponent_digits c =
    let h = c.in-Some.ensures in rw h.3 (AllDigits-exponent c.split_fraction.result.1.now h.0 h.1)

pub returns-in-None : goal.returns-in-None
returns-in-None c = record {
  reads = found_broken c.args.text.now _ _ _ _ _ c.split_sign-negative.ensures.rest
      c.split_digits.ensures.digits c.split_digits.ensures.rest
      c.split_fraction.ensures.digits c.split_fraction.ensures.rest c.in-None.ensures;
}

pub returns-in-Some : goal.returns-in-Some
returns-in-Some c =
    let some_digit : 0 < length c.split_digits.result.0.now + length c.split_fraction.result.0.now =
    elim c.else-is_empty.branch [
      | else-is_empty-via-then-is_empty+else-is_empty-2 w ↦ some_second _ _
          (eqb-false _ 0 (sym w.if-is_empty-2.ensures))
      | else-is_empty-via-else-is_empty w ↦ some_first _ _
          (eqb-false _ 0 (sym w.if-is_empty.ensures))
    ] in
    record {
      reads = found c.args.text.now _ _ _ _ _ c.split_sign-negative.ensures.rest
          c.split_digits.ensures.digits c.split_digits.ensures.rest
          c.split_fraction.ensures.digits c.split_fraction.ensures.rest _ _ _ _
          c.split_sign-negative.ensures.sign c.in-Some.ensures some_digit c.number.ensures;
    }
