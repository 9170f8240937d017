-- Sums that have no room in 128 bits have over 38 digits.
use Rattle.std.proofs.Common.{◌≡◌, ℕ, zero, suc, ◌+◌, ◌-◌, ◌*◌, ◌%◌, ◌^◌, ◌<◌, ◌≤◌, Bool, true, false, refl, sym, ap, ◌∙◌, arith, inl, inr, Err}
use Rattle.std.specs.Prelude.{ℤ, ◌+ℤ◌}
use Rattle.std.proofs.Math.Bool.{beq}
use Rattle.std.proofs.lemmas.Bool.{cases_Bool}
use Rattle.alt_decimal.specs.declared.fault.NumberFault.TheVariants.{TooManyDigits}
use Rattle.alt_decimal.specs.Number.{with_sign, fitted_units}
use Rattle.alt_decimal.proofs.Signs.{scaled_same, scaled_unlike}
use Rattle.alt_decimal.proofs.Widths.{mul-zeros}
use Rattle.alt_decimal.proofs.Fitting.{fitted_units-many}
use Rattle.alt_decimal.specs.Normal.{mul-ten_pow}

-- the sum of a * 10^(zeros + shift) and b * 10^zeros
abbrev pub sum_at : Bool → ℕ → ℕ → Bool → ℕ → ℕ → ℤ
sum_at an a shift bn b zeros = with_sign an (a * 10 ^ (zeros + shift)) +ℤ with_sign bn
    (b * 10 ^ zeros)

-- a sum at one place
pub sum_at-widened : (an : Bool) (a shift : ℕ) (bn : Bool) (b z x : ℕ) → x ≡ a * 10 ^ shift
    → sum_at an a shift bn b z ≡ with_sign an (x * 10 ^ z) +ℤ with_sign bn (b * 10 ^ z)
sum_at-widened an a shift bn b z x e =
    let p : a * 10 ^ (z + shift) ≡ x * 10 ^ z =
    ap (λ k. a * 10 ^ k) (omega arith) ∙ sym (mul-zeros x a shift z e) in
    ap (λ n. with_sign an n +ℤ with_sign bn (b * 10 ^ z)) p

-- with a shift the wider number ends in 0
last_widened : (a k : ℕ) → a * 10 ^ suc k % 10 ≡ 0
last_widened a k = let e = mul-ten_pow a k in omega (arith, e)

-- Numbers of one sign, where the wider has zeros to fill.
pub many_same : (an : Bool) (a k : ℕ) (bn : Bool) (b z : ℕ) → beq an bn ≡ true → 0 < b % 10
    → 10 ^ 38 ≤ a * 10 ^ suc k + b
    → fitted_units (sum_at an a (suc k) bn b z) ≡ Err TooManyDigits
many_same an a k bn b z same last long =
    let x = a * 10 ^ suc k in
    let e : sum_at an a (suc k) bn b z ≡ with_sign an ((x + b) * 10 ^ z) =
    sum_at-widened an a (suc k) bn b z x refl ∙ scaled_same an bn x b (x + b) (10 ^ z) same refl in
    ap fitted_units e ∙ fitted_units-many an (x + b) z long (omega (arith, last_widened a k))

-- Numbers of two signs, the wider far above the other.
pub many_unlike : (an : Bool) (a k : ℕ) (bn : Bool) (b z : ℕ) → beq an bn ≡ false → 0 < b % 10
    → 10 ^ 38 + b ≤ a * 10 ^ suc k
    → fitted_units (sum_at an a (suc k) bn b z) ≡ Err TooManyDigits
many_unlike an a k bn b z unlike last long =
    let x = a * 10 ^ suc k in
    let less : b ≤ x = omega arith in
    let e : sum_at an a (suc k) bn b z ≡ with_sign an ((x - b) * 10 ^ z) =
    sum_at-widened an a (suc k) bn b z x refl ∙ scaled_unlike an bn x b (10 ^ z) unlike less in
    ap fitted_units e ∙ fitted_units-many an (x - b) z (omega arith)
    (omega (arith, last_widened a k))

-- a coefficient that grows past 128 bits has too many digits
pub many_widened : (an : Bool) (a shift : ℕ) (bn : Bool) (b z : ℕ) → a < 10 ^ 38 → b < 10 ^ 38
    → 0 < b % 10 → 2 ^ 128 ≤ a * 10 ^ shift
    → fitted_units (sum_at an a shift bn b z) ≡ Err TooManyDigits
many_widened an a zero bn b z few_a few_b last long = absurd (omega (arith, long))
many_widened an a (suc k) bn b z few_a few_b last long = elim (cases_Bool (beq an bn)) [
  | inl same ↦ many_same an a k bn b z same last (omega (arith, long))
  | inr unlike ↦ many_unlike an a k bn b z unlike last (omega (arith, long))
]

-- signs that are the same are told to be
beq-same : (a b : Bool) → a ≡ b → beq a b ≡ true
beq-same false false e = refl
beq-same true true e = refl
beq-same false true e = cc
beq-same true false e = cc

-- and so has its sum
pub many_sum : (an : Bool) (a shift : ℕ) (bn : Bool) (b z : ℕ) → a < 10 ^ 38 → b < 10 ^ 38
    → 0 < b % 10 → an ≡ bn → 2 ^ 128 ≤ a * 10 ^ shift + b
    → fitted_units (sum_at an a shift bn b z) ≡ Err TooManyDigits
many_sum an a zero bn b z few_a few_b last same long = absurd (omega (arith, long))
many_sum an a (suc k) bn b z few_a few_b last same long =
    many_same an a k bn b z (beq-same an bn same) last (omega (arith, long))
