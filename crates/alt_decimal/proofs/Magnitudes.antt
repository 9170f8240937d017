-- The digits of a magnitude that is written as a coefficient and zeros, and that each `Decimal` fits.
use Rattle.std.proofs.Common.{◌≡◌, ℕ, ◌+◌, ◌*◌, ◌%◌, ◌^◌, ◌<◌, ◌≤◌, Bool, ap, ◌∙◌, arith, inl, inr}
use Rattle.std.specs.Prelude.{pos, nat_abs}
use Rattle.std.proofs.Math.Nat.{mul-pos}
use Rattle.std.proofs.lemmas.Bool.{cases_lt}
use Rattle.alt_decimal.specs.Digits.{width, trimmed, digit_count}
use Rattle.alt_decimal.specs.Number.{IsMagnitude, FitsDecimal}
use Rattle.alt_decimal.specs.declared.Decimal.TheInside.{Inside}
use Rattle.alt_decimal.specs.Form.{units_of, IsNormal}
use Rattle.alt_decimal.specs.Normal.{ten_pow_pos, trimmed-mul, nat_abs-with_sign}
use Rattle.alt_decimal.proofs.Widths.{width-le, width-pos, mul-ge, mul-lt}

-- the digits of a number above zero
pub digit_count-above : (n : ℕ) → 0 < n → digit_count n ≡ width (trimmed n)
unfolding digit_count
digit_count-above n h = grind arith

-- the zeros do not count
pub digit_count-mul : (a k : ℕ) → 0 < a % 10 → digit_count (a * 10 ^ k) ≡ width a
digit_count-mul a k h =
    let a_pos : 0 < a = omega arith in
    digit_count-above (a * 10 ^ k) (mul-pos a_pos (ten_pow_pos k)) ∙ ap width (trimmed-mul a k h)

-- the magnitude of a `Decimal`
size_of : (d : Inside) → nat_abs (units_of d) ≡ d.coefficient * 10 ^ d.zeros
size_of d = nat_abs-with_sign d.negative (d.coefficient * 10 ^ d.zeros)

-- how many digits a `Decimal` has
pub digit_count-units_of : (d : Inside) → IsNormal d → 0 < d.coefficient
    → digit_count (nat_abs (units_of d)) ≡ width d.coefficient
digit_count-units_of d n h = ap digit_count (size_of d)
    ∙ digit_count-mul d.coefficient d.zeros (n.no_zero_behind h)

-- no coefficient, no units
pub units_of-zero : (d : Inside) → IsNormal d → d.coefficient ≡ 0 → units_of d ≡ pos 0
units_of-zero d n h = rw (h, n.zero_sign h) (ap pos (omega arith))

-- else the magnitude fits
pub IsMagnitude-units_of : (d : Inside) → IsNormal d → 0 < d.coefficient
    → IsMagnitude (nat_abs (units_of d))
IsMagnitude-units_of d n h = record {
  few_digits = rw (digit_count-units_of d n h) (width-le 38 d.coefficient n.digits);
  least = rw (size_of d) (n.least h);
  below = rw (size_of d) n.below;
}

-- each `Decimal` is a number that fits
pub Fits-units_of : (d : Inside) → IsNormal d → FitsDecimal (units_of d)
Fits-units_of d n = elim (cases_lt 0 d.coefficient) [
  | inl h ↦ inr (IsMagnitude-units_of d n h)
  | inr h ↦ inl (units_of-zero d n (omega arith))
]

-- a number with no zeros behind it
pub digit_count-trimmed : (c : ℕ) → 0 < c % 10 → digit_count c ≡ width c
digit_count-trimmed c h = let e : c ≡ c * 10 ^ 0 = omega arith in
    ap digit_count e ∙ digit_count-mul c 0 h

-- the fields of a number that fits
pub IsNormal-from : (negative : Bool) (c z : ℕ) → c < 10 ^ 38 → 0 < c % 10 → 37 < width c + z
    → width c + z ≤ 293
    → IsNormal (record { negative = negative; coefficient = c; zeros = z })
IsNormal-from negative c z few last low high = record {
  digits = few;
  no_zero_behind = λ _. last;
  zero_sign = λ h. absurd (omega arith);
  zero_zeros = λ h. absurd (omega arith);
  few_zeros = omega (arith, width-pos c (omega arith));
  least = λ h. mul-ge c z 37 h low;
  below = mul-lt c z 293 high;
}
