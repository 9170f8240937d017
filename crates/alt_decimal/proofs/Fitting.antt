-- Which answer `fitted` gives.
use Rattle.std.proofs.Common.{◌≡◌, ℕ, ◌+◌, ◌-◌, ◌*◌, ◌/◌, ◌%◌, ◌^◌, ◌<◌, ◌≤◌, Bool, false, refl, sym, ap, ◌∙◌, arith, inl, inr, Ok, Err}
use Rattle.std.specs.Prelude.{ℤ, pos, negsuc, nat_abs, ◌==◌}
use Rattle.std.proofs.lemmas.Bool.{ne_eqb}
use Rattle.std.specs.Int.{is_negative}
use Rattle.std.proofs.Math.Nat.{mul-pos, mul-div_cancel, mul_assoc}
use Rattle.std.proofs.lemmas.Nat.{pow-add}
use Rattle.alt_decimal.specs.declared.fault.NumberFault.TheVariants.{TooManyDigits, TooLarge, TooSmall}
use Rattle.alt_decimal.specs.Digits.{width, digit_count}
use Rattle.alt_decimal.specs.Number.{Number, with_sign, fitted, fitted_units, FitsDecimal, IsMagnitude}
use Rattle.alt_decimal.specs.Normal.{ten_pow_pos, nat_abs-with_sign, is_negative-with_sign, not_below_zero}
use Rattle.alt_decimal.proofs.Magnitudes.{digit_count-mul, digit_count-trimmed}
use Rattle.alt_decimal.proofs.Widths.{width-mul, width-le, width-gt}

-- a number by its parts
abbrev pub number : Bool → ℕ → ℕ → ℕ → Number
number negative c up down = record { negative = negative; c = c; up = up; down = down }

-- zero fits
pub fitted-zero : (negative : Bool) (c up down : ℕ) → c ≡ 0
    → fitted (number negative c up down) ≡ Ok (pos 0)
unfolding fitted
fitted-zero negative c up down z = grind arith

-- too many digits
pub fitted-many : (negative : Bool) (c up down : ℕ) → 0 < c → 38 < digit_count c
    → fitted (number negative c up down) ≡ Err TooManyDigits
unfolding fitted
fitted-many negative c up down h many = grind arith

-- a first digit that stands too high
pub fitted-large : (negative : Bool) (c up down : ℕ) → 0 < c → digit_count c ≤ 38
    → 126 + down < width c + up
    → fitted (number negative c up down) ≡ Err TooLarge
unfolding fitted
fitted-large negative c up down h few far = grind arith

-- one that stands too low
pub fitted-small : (negative : Bool) (c up down : ℕ) → 0 < c → digit_count c ≤ 38
    → width c + up ≤ 126 + down → width c + up + 129 < down
    → fitted (number negative c up down) ≡ Err TooSmall
unfolding fitted
fitted-small negative c up down h few near far = grind arith

-- the units of a number that fits
pub fitted-ok : (negative : Bool) (c up down : ℕ) → 0 < c → digit_count c ≤ 38
    → width c + up ≤ 126 + down → down ≤ width c + up + 129
    → fitted (number negative c up down) ≡ Ok (with_sign negative (c * 10 ^ (up + 167) / 10 ^ down))
unfolding fitted
fitted-ok negative c up down h few near far = grind arith

-- the units of a number whose last digit is a whole unit
pub ok_units : (c up down : ℕ) → down ≤ up + 167
    → c * 10 ^ (up + 167 - down) ≡ c * 10 ^ (up + 167) / 10 ^ down
ok_units c up down h =
    let sum : up + 167 ≡ up + 167 - down + down = omega arith in
    let e : c * 10 ^ (up + 167) ≡ c * 10 ^ (up + 167 - down) * 10 ^ down =
    ap (λ k. c * 10 ^ k) sum ∙ ap (λ p. c * p) (pow-add 10 (up + 167 - down) down)
    ∙ sym (mul_assoc c (10 ^ (up + 167 - down)) (10 ^ down)) in
    sym (ap (λ n. n / 10 ^ down) e ∙ mul-div_cancel (c * 10 ^ (up + 167 - down)) (ten_pow_pos down))

-- the answer hangs on the digits, the place of the first, and the units
pub same_fitted : (negative : Bool) (c d up up' down : ℕ) → 0 < c → 0 < d
    → digit_count c ≡ digit_count d → width c + up ≡ width d + up'
    → c * 10 ^ (up + 167) ≡ d * 10 ^ (up' + 167)
    → fitted (number negative c up down) ≡ fitted (number negative d up' down)
unfolding fitted
same_fitted negative c d up up' down c_pos d_pos digits first units =
    let not_c : (c == 0) ≡ false = ne_eqb c 0 (λ z. omega arith) in
    let not_d : (d == 0) ≡ false = ne_eqb d 0 (λ z. omega arith) in
    rw (not_c, not_d, digits, first, units) refl

-- zeros behind a number move its digits up
pub fitted-shift : (negative : Bool) (c k up down : ℕ) → 0 < c % 10
    → fitted (number negative (c * 10 ^ k) up down) ≡ fitted (number negative c (k + up) down)
fitted-shift negative c k up down last =
    let c_pos : 0 < c = omega arith in
    let units : c * 10 ^ k * 10 ^ (up + 167) ≡ c * 10 ^ (k + up + 167) =
    mul_assoc c (10 ^ k) (10 ^ (up + 167)) ∙ ap (λ p. c * p) (sym (pow-add 10 k (up + 167)))
    ∙ ap (λ i. c * 10 ^ i) (omega arith) in
    same_fitted negative (c * 10 ^ k) c up (k + up) down (mul-pos c_pos (ten_pow_pos k)) c_pos
    (digit_count-mul c k last ∙ sym (digit_count-trimmed c last))
    (omega (arith, width-mul c k c_pos)) units

-- a whole number of units, by its sign and its magnitude
pub fitted_units-with_sign : (negative : Bool) (m : ℕ) → 0 < m
    → fitted_units (with_sign negative m) ≡ fitted (number negative m 0 167)
fitted_units-with_sign negative m h = rw (
  is_negative-with_sign negative m h,
  nat_abs-with_sign negative m,
) refl

-- the units of a coefficient with zeros behind it
pub fitted_units-mul : (negative : Bool) (c k : ℕ) → 0 < c % 10
    → fitted_units (with_sign negative (c * 10 ^ k)) ≡ fitted (number negative c k 167)
fitted_units-mul negative c k last =
    let c_pos : 0 < c = omega arith in
    fitted_units-with_sign negative (c * 10 ^ k) (mul-pos c_pos (ten_pow_pos k))
    ∙ fitted-shift negative c k 0 167 last
    ∙ ap (λ up. fitted (number negative c up 167)) (omega arith)

-- over 38 digits, the last of which is not 0
pub fitted_units-many : (negative : Bool) (s k : ℕ) → 10 ^ 38 ≤ s → 0 < s % 10
    → fitted_units (with_sign negative (s * 10 ^ k)) ≡ Err TooManyDigits
fitted_units-many negative s k long last =
    fitted_units-mul negative s k last
    ∙ fitted-many negative s k 167 (omega arith)
    (omega (arith, digit_count-trimmed s last, width-gt 38 s long))

-- no units
pub fitted_units-none : (negative : Bool) (n p : ℕ) → n ≡ 0
    → fitted_units (with_sign negative (n * p)) ≡ Ok (pos 0)
fitted_units-none negative n p z =
    let none : n * p ≡ 0 = rw z (omega arith) in
    fitted-zero (is_negative (with_sign negative (n * p))) _ 0 167
    (nat_abs-with_sign negative (n * p) ∙ none)

-- a number is its magnitude with its sign
pub with_sign-nat_abs : (z : ℤ) → with_sign (is_negative z) (nat_abs z) ≡ z
with_sign-nat_abs (pos n) = rw (not_below_zero n) refl
with_sign-nat_abs (negsuc n) = refl

-- a magnitude fits
fitted_units-magnitude : (z : ℤ) → IsMagnitude (nat_abs z) → fitted_units z ≡ Ok z
fitted_units-magnitude z h =
    let m = nat_abs z in
    let above : 0 < m = omega (arith, h.least) in
    let units : m * 10 ^ 167 / 10 ^ 167 ≡ m = mul-div_cancel m (ten_pow_pos 167) in
    fitted-ok (is_negative z) m 0 167 above h.few_digits
    (omega (arith, width-le 293 m h.below)) (omega (arith, width-gt 37 m h.least))
    ∙ ap (λ n. Ok (with_sign (is_negative z) n)) units ∙ ap Ok (with_sign-nat_abs z)

-- a number that fits is its own answer
pub fitted_units-Fits : (z : ℤ) → FitsDecimal z → fitted_units z ≡ Ok z
fitted_units-Fits z h = elim h [
  | inl none ↦ rw none (fitted-zero false 0 0 167 refl)
  | inr size ↦ fitted_units-magnitude z size
]
