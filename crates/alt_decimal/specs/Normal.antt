-- Laws of these definitions: zeros behind a number are counted and taken off, and the fields of a `Decimal` are told by its units.
use Rattle.std.proofs.Common.{◌≡◌, ℕ, zero, suc, ◌*◌, ◌%◌, ◌^◌, ◌<◌, ◌≤◌, Bool, true, false, refl, sym, ap, ◌∙◌, arith, inl, inr}
use Rattle.std.specs.Prelude.{pos, nat_abs}
use Rattle.std.specs.Int.{is_negative}
use Rattle.std.proofs.Math.Nat.{pow-suc, mul-mod_left, mul-div_cancel, one-le-pow, mul_assoc, mul-le-mul_right, mul-pos}
use Rattle.std.proofs.lemmas.Bool.{cases_lt}
use Rattle.alt_decimal.specs.Digits.{zeros_within, trailing_zeros, trimmed}
use Rattle.alt_decimal.specs.Number.{with_sign}
use Rattle.alt_decimal.specs.declared.Decimal.TheInside.{Inside}
use Rattle.alt_decimal.specs.Form.{units_of, IsNormal, decimal_fields}

-- one more zero stands last
pub mul-ten_pow : (a k : ℕ) → a * 10 ^ suc k ≡ a * 10 ^ k * 10
mul-ten_pow a k = rw (pow-suc 10 k) (sym (mul_assoc a (10 ^ k) 10))

-- a power of ten is above zero
pub ten_pow_pos : (k : ℕ) → 0 < 10 ^ k
ten_pow_pos k = omega (arith, one-le-pow k 10 (omega arith))

-- a power of ten is above its exponent
pub lt-ten_pow : (k : ℕ) → k < 10 ^ k
lt-ten_pow zero = omega arith
lt-ten_pow (suc k) = omega (arith, lt-ten_pow k, pow-suc 10 k)

-- a number that doesn't end with a zero has none
zeros_within_none : (f a : ℕ) → 0 < a % 10 → zeros_within f a ≡ 0
zeros_within_none zero a h = refl
zeros_within_none (suc f) a h = grind arith

-- the zeros put behind such a number are counted
pub zeros_within-mul : (f a k : ℕ) → 0 < a % 10 → k ≤ f → zeros_within f (a * 10 ^ k) ≡ k
zeros_within-mul f a zero h le = let e : a * 10 ^ 0 ≡ a = omega arith in
    rw e (zeros_within_none f a h)
zeros_within-mul zero a (suc k) h le = omega arith
zeros_within-mul (suc f) a (suc k) h le =
    let ten : 0 < 10 = omega arith in
    rw (mul-ten_pow a k, mul-mod_left (a * 10 ^ k) 10, mul-div_cancel (a * 10 ^ k) ten)
    (omega (arith, zeros_within-mul f a k h (omega arith)))

-- they are no more than the number
pub mul-ten_pow_ge : (a k : ℕ) → 0 < a → k ≤ a * 10 ^ k
mul-ten_pow_ge a k h = omega (arith, lt-ten_pow k, mul-le-mul_right (10 ^ k) h)

-- so they are the zeros that it ends with
pub trailing_zeros-mul : (a k : ℕ) → 0 < a % 10 → trailing_zeros (a * 10 ^ k) ≡ k
unfolding trailing_zeros
trailing_zeros-mul a k h = zeros_within-mul (a * 10 ^ k) a k h (mul-ten_pow_ge a k (omega arith))

-- and without them it is the number from before
pub trimmed-mul : (a k : ℕ) → 0 < a % 10 → trimmed (a * 10 ^ k) ≡ a
unfolding trimmed
trimmed-mul a k h = rw (trailing_zeros-mul a k h) (mul-div_cancel a (ten_pow_pos k))

-- a sign leaves the magnitude
pub nat_abs-with_sign : (negative : Bool) (n : ℕ) → nat_abs (with_sign negative n) ≡ n
nat_abs-with_sign false n = refl
nat_abs-with_sign true zero = refl
nat_abs-with_sign true (suc n) = refl

-- a natural number isn't below zero
pub not_below_zero : (n : ℕ) → is_negative (pos n) ≡ false
not_below_zero n = grind arith

-- the sign is told again, but for zero
pub is_negative-with_sign : (negative : Bool) (n : ℕ) → 0 < n
    → is_negative (with_sign negative n) ≡ negative
is_negative-with_sign false n h = not_below_zero n
is_negative-with_sign true zero h = absurd (omega arith)
is_negative-with_sign true (suc n) h = refl

-- fields that are equal one by one are equal
same_fields : (d : Inside) (negative : Bool) (coefficient behind : ℕ) → negative ≡ d.negative
    → coefficient ≡ d.coefficient → behind ≡ d.zeros
    → (let e : Inside = record { negative = negative; coefficient = coefficient; zeros = behind } in
    e ≡ d)
same_fields d negative coefficient behind p q r = rw (p, q, r) refl

-- the fields are told by the units: of zero, and of the others
fields_of-zero : (d : Inside) → IsNormal d → d.coefficient ≡ 0 → decimal_fields (units_of d) ≡ d
unfolding decimal_fields trimmed trailing_zeros
fields_of-zero d n h =
    let z : units_of d ≡ pos 0 = rw (h, n.zero_sign h) (ap pos (omega arith)) in
    let e : decimal_fields (units_of d) ≡ record { negative = false; coefficient = 0; zeros = 0 } =
    rw z refl in
    e ∙ same_fields d false 0 0 (sym (n.zero_sign h)) (sym h) (sym (n.zero_zeros h))

-- nor is there another for a number that isn't zero
fields_of-above : (d : Inside) → IsNormal d → 0 < d.coefficient → decimal_fields (units_of d) ≡ d
unfolding decimal_fields
fields_of-above d n h =
    let size : nat_abs (units_of d) ≡ d.coefficient * 10 ^ d.zeros =
    nat_abs-with_sign d.negative (d.coefficient * 10 ^ d.zeros) in
    let above : 0 < d.coefficient * 10 ^ d.zeros = mul-pos h (ten_pow_pos d.zeros) in
    same_fields d _ _ _ (is_negative-with_sign d.negative (d.coefficient * 10 ^ d.zeros) above)
    (ap trimmed size ∙ trimmed-mul d.coefficient d.zeros (n.no_zero_behind h))
    (ap trailing_zeros size ∙ trailing_zeros-mul d.coefficient d.zeros (n.no_zero_behind h))

-- so one representation a number
pub fields_of-units_of : (d : Inside) → IsNormal d → decimal_fields (units_of d) ≡ d
fields_of-units_of d n =
    elim (cases_lt 0 d.coefficient) [
      | inl h ↦ fields_of-above d n h
      | inr h ↦ fields_of-zero d n
          (omega arith)
    ]
