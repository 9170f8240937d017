-- How many digits a number has, by the powers of ten round it.
use Rattle.std.proofs.Common.{◌≡◌, ℕ, zero, suc, ◌+◌, ◌*◌, ◌/◌, ◌%◌, ◌^◌, ◌<◌, ◌≤◌, refl, sym, ap, ◌∙◌, subst, arith, length, inl, inr}
use Rattle.std.proofs.Math.Nat.{pow-suc, pow-le-pow_right, mul-le-mul_right, mul-lt-mul_of_pos_right, mul_assoc}
use Rattle.std.proofs.lemmas.Nat.{pow-add}
use Rattle.std.proofs.lemmas.Bool.{cases_lt}
use Rattle.std.specs.Int.Digits.{digits_of}
use Rattle.std.proofs.lemmas.Int.Digits.{length-digits_of-le, number_lt, number_digits_of, all_below_base_digits_of}
use Rattle.alt_decimal.specs.Digits.{width}
use Rattle.alt_decimal.specs.Normal.{ten_pow_pos}

-- powers of ten rise
pub ten_pow-le : (i j : ℕ) → i ≤ j → 10 ^ i ≤ 10 ^ j
ten_pow-le i j h = pow-le-pow_right {n = 10} (omega arith) {i = i} {j = j} h

-- the last digit, where it is 0, is one more zero behind
pub mul-ten_less : (n z : ℕ) → n % 10 ≡ 0 → n * 10 ^ z ≡ n / 10 * 10 ^ (z + 1)
mul-ten_less n z h =
    let d : n ≡ n / 10 * 10 = omega arith in
    let e : n * 10 ^ z ≡ n / 10 * 10 * 10 ^ z = ap (λ m. m * 10 ^ z) d in
    omega (arith, e, ap (λ p. n / 10 * p) (pow-add 10 z 1))

-- a number that is less than a power of ten has no more digits than that
pub width-le : (k n : ℕ) → n < 10 ^ k → width n ≤ k
unfolding width
width-le k n h = length-digits_of-le 10 k n (omega arith) h

-- a number has no more digits than it has
pub lt-width : (n : ℕ) → n < 10 ^ width n
unfolding width
lt-width n = let two : 2 ≤ 10 = omega arith in
    subst (λ (m : ℕ). m < 10 ^ length (digits_of 10 n)) (number_digits_of 10 n two)
    (number_lt 10 (digits_of 10 n) (all_below_base_digits_of 10 n two))

-- a number that reaches a power of ten has more digits than that
pub width-gt : (k n : ℕ) → 10 ^ k ≤ n → k < width n
width-gt k n h = elim (cases_lt k (width n)) [
  | inl lt ↦ lt
  | inr le ↦ let p : 10 ^ width n ≤ 10 ^ k = pow-le-pow_right (omega arith) le in
      absurd (omega (arith, lt-width n))
]

-- how many digits, by two powers of ten
pub width_is : (k n : ℕ) → 10 ^ k ≤ n → n < 10 * 10 ^ k → width n ≡ k + 1
width_is k n low high = omega (
  arith,
  width-gt k n low,
  width-le (suc k) n (rw pow-suc (omega arith)),
)

-- zero has none
pub width-zero : width 0 ≡ 0
unfolding width
width-zero = refl

-- a number above zero has one
pub width-pos : (n : ℕ) → 0 < n → 0 < width n
width-pos n h = width-gt 0 n (omega arith)

-- the first digit is not 0
pub width-low : (n k : ℕ) → width n ≡ suc k → 10 ^ k ≤ n
width-low n k e = elim (cases_lt n (10 ^ k)) [
  | inl lt ↦ absurd (omega (arith, width-le k n lt))
  | inr le ↦ le
]

-- a number above zero is one more than another
pub case_pos : (n : ℕ) → 0 < n → (w : ℕ) × (n ≡ suc w)
case_pos zero h = absurd (omega arith)
case_pos (suc w) h = (w, refl)

-- zeros behind a number that has digits make it longer by as many
width-mul_from : (a k w : ℕ) → width a ≡ suc w → width (a * 10 ^ k) ≡ width a + k
width-mul_from a k w e =
    let low : 10 ^ w * 10 ^ k ≤ a * 10 ^ k = mul-le-mul_right (10 ^ k) (width-low a w e) in
    let below : a < 10 ^ suc w = rw (← e) (lt-width a) in
    let high : a * 10 ^ k < 10 ^ suc w * 10 ^ k = mul-lt-mul_of_pos_right below (ten_pow_pos k) in
    let p : 10 ^ (w + k) ≡ 10 ^ w * 10 ^ k = pow-add 10 w k in
    let q : 10 ^ suc w ≡ 10 ^ w * 10 = pow-suc 10 w in
    let r : 10 ^ suc w * 10 ^ k ≡ 10 * 10 ^ (w + k) = rw (q, p) (omega arith) in
    omega (arith, width_is (w + k) (a * 10 ^ k) (rw p low) (omega arith))

-- zeros behind a number lengthen it
pub width-mul : (a k : ℕ) → 0 < a → width (a * 10 ^ k) ≡ width a + k
width-mul a k h = let (w, e) = case_pos (width a) (width-pos a h) in width-mul_from a k w e

-- a number with zeros behind it, by its length
pub mul-lt : (n k m : ℕ) → width n + k ≤ m → n * 10 ^ k < 10 ^ m
mul-lt n k m h =
    let below : n * 10 ^ k < 10 ^ width n * 10 ^ k =
    mul-lt-mul_of_pos_right (lt-width n) (ten_pow_pos k) in
    let longest : 10 ^ (width n + k) ≤ 10 ^ m = pow-le-pow_right (omega arith) h in
    omega (arith, pow-add 10 (width n) k)

-- fewer zeros stand behind a number than it has digits
pub zeros-lt : (c k m : ℕ) → 0 < c → c * 10 ^ k < 10 ^ m → k < m
zeros-lt c k m h below = elim (cases_lt k m) [
  | inl lt ↦ lt
  | inr le ↦
      let p : 10 ^ m ≤ 10 ^ k = pow-le-pow_right (omega arith) le in
      let q : 1 * 10 ^ k ≤ c * 10 ^ k = mul-le-mul_right (10 ^ k) h in
      absurd (omega (arith, p, q, below))
]

-- a number with zeros behind it, from below
pub mul-ge : (n k m : ℕ) → 0 < n → m < width n + k → 10 ^ m ≤ n * 10 ^ k
mul-ge n k m n_pos h =
    let (w, e) = case_pos (width n) (width-pos n n_pos) in
    let p : 10 ^ w * 10 ^ k ≤ n * 10 ^ k = mul-le-mul_right (10 ^ k) (width-low n w e) in
    let q : 10 ^ m ≤ 10 ^ (w + k) = pow-le-pow_right (omega arith) (omega arith) in
    omega (arith, pow-add 10 w k)

-- zeros behind zeros
pub mul-zeros : (n c i j : ℕ) → n ≡ c * 10 ^ i → n * 10 ^ j ≡ c * 10 ^ (i + j)
mul-zeros n c i j e = ap (λ m. m * 10 ^ j) e ∙ mul_assoc c (10 ^ i) (10 ^ j)
    ∙ ap (λ p. c * p) (sym (pow-add 10 i j))

-- where the first digit of a number with zeros behind it stands, by its size
pub mul-width_gt : (c k m : ℕ) → 10 ^ m ≤ c * 10 ^ k → m < width c + k
mul-width_gt c k m h = elim (cases_lt m (width c + k)) [
  | inl lt ↦ lt
  | inr le ↦ absurd (omega (
    arith,
    mul-lt c k (width c + k) (omega arith),
    ten_pow-le (width c + k) m le,
    h,
  ))
]

-- and from above
pub mul-width_le : (c k m : ℕ) → 0 < c → c * 10 ^ k < 10 ^ m → width c + k ≤ m
mul-width_le c k m above h = elim (cases_lt m (width c + k)) [
  | inl lt ↦ absurd (omega (arith, mul-ge c k m above lt, h))
  | inr le ↦ le
]
