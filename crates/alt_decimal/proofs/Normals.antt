-- Each number that fits has one form, so whole numbers of units can stand for decimals in laws of spellings.
use Rattle.std.proofs.Common.{◌≡◌, sym, ap, ◌∙◌, refl, ◌+◌, ◌<◌, ◌≤◌, ◌^◌, List, ℕ, ◌++◌, inl, inr, arith, false}
use Rattle.std.specs.Prelude.{ℤ, pos, nat_abs}
use Rattle.std.specs.Int.{is_negative}
use Rattle.std.specs.Ordering.{nat_cmp, int_cmp}
use Rattle.std.specs.Cmp.Lexicographic.{slice_cmp}
use Rattle.std.proofs.lemmas.List.{append_cancel_left}
use Rattle.alt_decimal.specs.Digits.{width, digit_count}
use Rattle.alt_decimal.specs.Form.{units_of, IsNormal}
use Rattle.alt_decimal.specs.Number.{FitsDecimal, IsMagnitude, with_sign}
use Rattle.alt_decimal.specs.Spelled.{spelled}
use Rattle.alt_decimal.specs.declared.Decimal.TheInside.{Inside}
use Rattle.alt_decimal.proofs.Apart.{spelled-apart}
use Rattle.alt_decimal.proofs.Fitting.{with_sign-nat_abs}
use Rattle.alt_decimal.proofs.Magnitudes.{digit_count-mul, IsNormal-from}
use Rattle.alt_decimal.proofs.SpellingOrder.{spelled_cmp}
use Rattle.alt_decimal.proofs.Trimmed.{Trimmed, trimmed_of}
use Rattle.alt_decimal.proofs.Widths.{ten_pow-le, lt-width, mul-width_gt, mul-width_le}

-- the fields of a number in normal form
record Normal (z : ℤ) : Type 0 where
  fields : Inside
  normal : IsNormal fields
  is : units_of fields ≡ z

-- those of zero, of a number by its digits, and of any that fits
zero_normal : Normal (pos 0)
zero_normal = record {
  fields = record { negative = false; coefficient = 0; zeros = 0 };
  normal = record {
    digits = omega arith;
    no_zero_behind = λ h. absurd (omega (arith, h));
    zero_sign = λ h. refl;
    zero_zeros = λ h. refl;
    few_zeros = omega arith;
    least = λ h. absurd (omega (arith, h));
    below = omega arith;
  };
  is = refl;
}

magnitude_normal : (z : ℤ) → IsMagnitude (nat_abs z) → Normal z
magnitude_normal z m =
    let t : Trimmed (nat_abs z) = trimmed_of (nat_abs z) (omega (arith, m.least)) in
    let c = t.coefficient in
    let k = t.behind in
    let digits : width c ≤ 38 =
    omega (arith, m.few_digits, ap digit_count t.is, digit_count-mul c k t.last) in
    let few : c < 10 ^ 38 = omega (arith, lt-width c, ten_pow-le (width c) 38 digits) in
    let low : 37 < width c + k = mul-width_gt c k 37 (rw (← t.is) m.least) in
    let high : width c + k ≤ 293 =
    mul-width_le c k 293 (omega (arith, t.last)) (rw (← t.is) m.below) in
    record {
      fields = record { negative = is_negative z; coefficient = c; zeros = k };
      normal = IsNormal-from (is_negative z) c k few t.last low high;
      is = ap (with_sign (is_negative z)) (sym t.is) ∙ with_sign-nat_abs z;
    }

normal_of : (z : ℤ) → FitsDecimal z → Normal z
normal_of z h = elim h [ inl e ↦ rw e zero_normal | inr m ↦ magnitude_normal z m ]

-- whatever follows it, a spelling is that of one number
pub spelled_apart : (u v : ℤ) (x y : List ℕ) → FitsDecimal u → FitsDecimal v → spelled u ++ x ≡ spelled v ++ y
    → (u ≡ v) × (x ≡ y)
spelled_apart u v x y fu fv e =
    let a = normal_of u fu in
    let b = normal_of v fv in
    let same : u ≡ v =
    sym a.is ∙ spelled-apart a.fields b.fields a.normal b.normal x y (rw (a.is, b.is) e) ∙ b.is in
    (same, append_cancel_left (spelled u) x y (e ∙ ap (λ z. spelled z ++ y) (sym same)))

-- numbers lie as their spellings do
pub spelled_order : (u v : ℤ) → FitsDecimal u → FitsDecimal v
    → int_cmp u v ≡ slice_cmp nat_cmp (spelled u) (spelled v)
spelled_order u v fu fv =
    let a = normal_of u fu in
    let b = normal_of v fv in
    rw (← a.is, ← b.is) (spelled_cmp a.fields b.fields a.normal b.normal)
