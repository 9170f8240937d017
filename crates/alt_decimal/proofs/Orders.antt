-- The order of numbers by their signs, by the place of their first digit, and by their digits.
use Rattle.std.proofs.Common.{◌≡◌, ℕ, zero, suc, ◌+◌, ◌*◌, ◌^◌, ◌<◌, ◌≤◌, refl, sym, ap, ◌∙◌, arith, inl, inr}
use Rattle.std.specs.Prelude.{pos, negsuc, neg_ℤ}
use Rattle.std.specs.Ordering.{nat_cmp, int_cmp}
use Rattle.std.specs.declared.cmp.Ordering.TheVariants.{Less, Greater}
use Rattle.std.proofs.Math.Nat.{mul-lt-mul_of_pos_right, mul-le-mul_right, pow-le-pow_right}
use Rattle.std.proofs.lemmas.Nat.{pow-add}
use Rattle.std.proofs.lemmas.Bool.{cases_order, cases_lt}
use Rattle.alt_base.proofs.Orderings.{nat_cmp-equal, nat_cmp-greater, nat_cmp-less}
use Rattle.alt_decimal.specs.Digits.{width}
use Rattle.alt_decimal.specs.Normal.{ten_pow_pos}
use Rattle.alt_decimal.proofs.Widths.{lt-width, width-low, width-pos, width-zero, case_pos}

-- a positive factor keeps the order
pub nat_cmp-mul : (m n p : ℕ) → 0 < p → nat_cmp (m * p) (n * p) ≡ nat_cmp m n
nat_cmp-mul m n p h = elim (cases_order m n) [
  | inl e ↦ nat_cmp-equal (m * p) (n * p) (ap (λ x. x * p) e) ∙ sym (nat_cmp-equal m n e)
  | inr o ↦ elim o [
    | inl lt ↦ nat_cmp-less (m * p) (n * p) (mul-lt-mul_of_pos_right lt h)
        ∙ sym (nat_cmp-less m n lt)
    | inr gt ↦ nat_cmp-greater (m * p) (n * p) (mul-lt-mul_of_pos_right gt h)
        ∙ sym (nat_cmp-greater m n gt)
  ]
]

-- the order of whole numbers, by their signs
pub int_cmp-pos : (m n : ℕ) → int_cmp (pos m) (pos n) ≡ nat_cmp m n
int_cmp-pos m n = grind arith

-- numbers below 0 lie the other way round than their sizes
int_cmp-negsuc : (m n : ℕ) → int_cmp (negsuc m) (negsuc n) ≡ nat_cmp (suc n) (suc m)
int_cmp-negsuc m n = grind arith

-- below zero the other way round
pub int_cmp-neg : (m n : ℕ) → int_cmp (neg_ℤ (pos m)) (neg_ℤ (pos n)) ≡ nat_cmp n m
int_cmp-neg zero zero = refl
int_cmp-neg zero (suc n) = sym (nat_cmp-greater (suc n) 0 (omega arith))
int_cmp-neg (suc m) zero = sym (nat_cmp-less 0 (suc m) (omega arith))
int_cmp-neg (suc m) (suc n) = int_cmp-negsuc m n

-- below zero is below
pub int_cmp-neg_pos : (m n : ℕ) → 0 < m → int_cmp (neg_ℤ (pos m)) (pos n) ≡ Less
int_cmp-neg_pos zero n h = absurd (omega arith)
int_cmp-neg_pos (suc m) n h = refl

-- and above it above
pub int_cmp-pos_neg : (m n : ℕ) → 0 < n → int_cmp (pos m) (neg_ℤ (pos n)) ≡ Greater
int_cmp-pos_neg m zero h = absurd (omega arith)
int_cmp-pos_neg m (suc n) h = refl

-- where the first digits stand at different places they decide
pub lt-by_place : (a i b j : ℕ) → width a + i < width b + j → 0 < b → a * 10 ^ i < b * 10 ^ j
lt-by_place a i b j h b_pos =
    let (w, e) = case_pos (width b) (width-pos b b_pos) in
    let below : a * 10 ^ i < 10 ^ width a * 10 ^ i =
    mul-lt-mul_of_pos_right (lt-width a) (ten_pow_pos i) in
    let above : 10 ^ w * 10 ^ j ≤ b * 10 ^ j = mul-le-mul_right (10 ^ j) (width-low b w e) in
    let between : 10 ^ (width a + i) ≤ 10 ^ (w + j) =
    pow-le-pow_right (omega arith) (omega arith) in
    omega (arith, pow-add 10 (width a) i, pow-add 10 w j)

-- the same, where only zero has no first digit
pub lt-by_first : (a i b j : ℕ) → width a + i < width b + j → (b ≡ 0 → j ≡ 0)
    → a * 10 ^ i < b * 10 ^ j
lt-by_first a i b j h zero_b = elim (cases_lt 0 b) [
  | inl above ↦ lt-by_place a i b j h above
  | inr none ↦ let z : b ≡ 0 = omega arith in
      absurd (omega (arith, ap width z, width-zero, zero_b z))
]

-- where they stand at one place, the zeros that both have do not matter
pub nat_cmp-filled : (a b i j k : ℕ) → i ≡ j + k
    → nat_cmp (a * 10 ^ k) b ≡ nat_cmp (a * 10 ^ i) (b * 10 ^ j)
nat_cmp-filled a b i j k e =
    let p : a * 10 ^ i ≡ a * 10 ^ k * 10 ^ j = rw (e, pow-add 10 j k) (omega arith) in
    rw p (sym (nat_cmp-mul (a * 10 ^ k) b (10 ^ j) (ten_pow_pos j)))

-- coefficients filled up to one place
pub nat_cmp-filled_second : (a b i j k : ℕ) → j ≡ i + k
    → nat_cmp a (b * 10 ^ k) ≡ nat_cmp (a * 10 ^ i) (b * 10 ^ j)
nat_cmp-filled_second a b i j k e =
    let p : b * 10 ^ j ≡ b * 10 ^ k * 10 ^ i = rw (e, pow-add 10 i k) (omega arith) in
    rw p (sym (nat_cmp-mul a (b * 10 ^ k) (10 ^ i) (ten_pow_pos i)))
