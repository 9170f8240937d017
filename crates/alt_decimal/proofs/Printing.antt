-- The printed form of a number, by its coefficient and the zeros behind it.
use Rattle.std.proofs.Common.{◌≡◌, ℕ, zero, suc, ◌+◌, ◌-◌, ◌*◌, ◌/◌, ◌%◌, ◌^◌, ◌<◌, ◌≤◌, List, [], ◌∷◌, ◌++◌, length, take, drop, refl, sym, ap, ◌∙◌, arith, replicate, inl, inr}
use Rattle.std.proofs.Math.Nat.{mul-div_cancel, mul-pos, div-eq_of_lt, mul_assoc, mul-lt-mul_of_pos_right, mul-mod_left, pow-suc}
use Rattle.std.proofs.Math.Seq.{take-append_seam, drop-append_seam}
use Rattle.std.proofs.lemmas.Nat.{pow-add, div-mul-add, mod-mul-add, div-add-mod', mod_below, le-div, div_below}
use Rattle.std.proofs.lemmas.Bool.{cases_lt, ne_eqb}
use Rattle.std.proofs.lemmas.List.{append-nil}
use Rattle.alt_decimal.specs.Digits.{width, padded, glyphs, trailing_zeros}
use Rattle.std.specs.Prelude.{pos}
use Rattle.std.specs.Fmt.{sign_text as minus_if}
use Rattle.alt_decimal.specs.declared.Decimal.TheInside.{Inside}
use Rattle.alt_decimal.specs.Form.{units_of, IsNormal}
use Rattle.alt_decimal.specs.Printed.{whole_text, fraction_text, printed}
use Rattle.alt_decimal.specs.Layout.{magnitude_text}
use Rattle.alt_decimal.specs.Normal.{ten_pow_pos, trailing_zeros-mul, nat_abs-with_sign, is_negative-with_sign}
use Rattle.alt_decimal.proofs.Widths.{width-mul, width-le, width-gt, lt-width, width-low, width-zero, case_pos, ten_pow-le, mul-zeros}
use Rattle.alt_decimal.proofs.Padded.{padded-append, padded-mod, padded-mul, padded-wide, length-padded, length-glyphs, glyphs-append, digits_of-padded, glyphs-cons, glyphs-none}
use Rattle.alt_decimal.proofs.Layouts.{text_whole, text_split, text_fraction}

-- m units without a sign
abbrev pub unsigned_text : ℕ → List ℕ
unsigned_text m = whole_text (m / 10 ^ 167) ++ fraction_text (m % 10 ^ 167)

-- a whole number above 0 is printed by its digits
whole_text-above : (n : ℕ) → 0 < n → whole_text n ≡ glyphs 48 (padded (width n) n)
unfolding whole_text
whole_text-above n h = rw (ne_eqb n 0 (λ z. omega arith)) (ap (glyphs 48) (digits_of-padded n))

whole_text-zero : whole_text 0 ≡ 48 ∷ []
unfolding whole_text
whole_text-zero = refl

fraction_text-none : fraction_text 0 ≡ []
unfolding fraction_text
fraction_text-none = refl

fraction_text-above : (n : ℕ) → 0 < n → fraction_text n
    ≡ 46 ∷ glyphs 48 (take (167 - trailing_zeros n) (padded 167 n))
unfolding fraction_text
fraction_text-above n h = rw (ne_eqb n 0 (λ z. omega arith)) refl

glyphs-zeros : (k : ℕ) → glyphs 48 (replicate k 0) ≡ replicate k 48
glyphs-zeros zero = glyphs-none 48
glyphs-zeros (suc k) = glyphs-cons 48 0 (replicate k 0) ∙ ap (λ ds. 48 ∷ ds) (glyphs-zeros k)

length-digits : (w n : ℕ) → length (glyphs 48 (padded w n)) ≡ w
length-digits w n = length-glyphs 48 (padded w n) ∙ length-padded w n

-- ---- whole numbers

digits-mul : (c k : ℕ) → padded (width c + k) (c * 10 ^ k) ≡ padded (width c) c ++ replicate k 0
digits-mul c k =
    padded-append (width c) k (c * 10 ^ k)
    ∙ ap (λ n. padded (width c) n ++ padded k (c * 10 ^ k)) (mul-div_cancel c (ten_pow_pos k))
    ∙ ap (λ ds. padded (width c) c ++ ds) (padded-mul k c)

-- a whole number, printed
pub unsigned-whole : (c z : ℕ) → 0 < c → 167 ≤ z
    → unsigned_text (c * 10 ^ z) ≡ magnitude_text (glyphs 48 (padded (width c) c)) z
unsigned-whole c z above h =
    let k = z - 167 in
    let d = glyphs 48 (padded (width c) c) in
    let sum : k + 167 ≡ z = omega arith in
    let m : c * 10 ^ z ≡ c * 10 ^ k * 10 ^ 167 =
    ap (λ i. c * 10 ^ i) (sym sum) ∙ sym (mul-zeros (c * 10 ^ k) c k 167 refl) in
    let whole : c * 10 ^ z / 10 ^ 167 ≡ c * 10 ^ k =
    ap (λ n. n / 10 ^ 167) m ∙ mul-div_cancel (c * 10 ^ k) (ten_pow_pos 167) in
    let none : c * 10 ^ z % 10 ^ 167 ≡ 0 = ap (λ n. n % 10 ^ 167) m
    ∙ mul-mod_left (c * 10 ^ k) (10 ^ 167) in
    let digits : whole_text (c * 10 ^ k) ≡ d ++ replicate k 48 =
    whole_text-above (c * 10 ^ k) (mul-pos above (ten_pow_pos k))
    ∙ ap (λ w. glyphs 48 (padded w (c * 10 ^ k))) (width-mul c k above)
    ∙ ap (glyphs 48) (digits-mul c k)
    ∙ glyphs-append 48 (padded (width c) c) (replicate k 0) ∙ ap (λ ds. d ++ ds) (glyphs-zeros k) in
    ap (λ n. whole_text n ++ fraction_text (c * 10 ^ z % 10 ^ 167)) whole
    ∙ ap (λ n. whole_text (c * 10 ^ k) ++ fraction_text n) none
    ∙ ap (λ ds. whole_text (c * 10 ^ k) ++ ds) fraction_text-none
    ∙ append-nil (whole_text (c * 10 ^ k)) ∙ digits ∙ sym (text_whole d z h)

-- ---- numbers with digits behind the point

-- the digits before the last k
width-div : (c k j : ℕ) → width c ≡ j + k → 0 < j → width (c / 10 ^ k) ≡ j
width-div c k j e some =
    let (i, is) = case_pos j some in
    let low : 10 ^ i * 10 ^ k ≤ c = rw (← pow-add 10 i k)
    (width-low c (i + k) (omega (arith, e, is))) in
    let high : c < 10 ^ j * 10 ^ k = rw (← pow-add 10 j k, ← e) (lt-width c) in
    let long : 10 ^ i ≤ c / 10 ^ k = le-div (10 ^ i) c (10 ^ k) (ten_pow_pos k) low in
    let short : c / 10 ^ k < 10 ^ j = div_below c (10 ^ k) (10 ^ j) (ten_pow_pos k) high in
    omega (arith, width-gt i (c / 10 ^ k) long, width-le j (c / 10 ^ k) short, is)

-- what has a digit is above zero
above_width : (n : ℕ) → 0 < width n → 0 < n
above_width n h = elim (cases_lt 0 n) [
  | inl above ↦ above
  | inr none ↦ let z : n ≡ 0 = omega arith in absurd (omega (arith, ap width z, width-zero, h))
]

module _ (c z k : ℕ) (sum : k + z ≡ 167) (some : 0 < k) (last : 0 < c % 10) where
  abbrev q : ℕ
  q = c / 10 ^ k

  abbrev r : ℕ
  r = c % 10 ^ k

  ten : 10 ^ 167 ≡ 10 ^ k * 10 ^ z
  ten = ap (λ i. 10 ^ i) (sym sum) ∙ pow-add 10 k z

  parts : c * 10 ^ z ≡ q * 10 ^ 167 + r * 10 ^ z
  parts =
      let e : c ≡ q * 10 ^ k + r = sym (div-add-mod' c (10 ^ k)) in
      let p : c * 10 ^ z ≡ (q * 10 ^ k + r) * 10 ^ z = ap (λ n. n * 10 ^ z) e in
      omega (arith, p, ap (λ n. q * n) ten)

  rest_below : r * 10 ^ z < 10 ^ 167
  rest_below = rw ten (mul-lt-mul_of_pos_right (mod_below c (10 ^ k) (ten_pow_pos k))
      (ten_pow_pos z))

  whole_is : c * 10 ^ z / 10 ^ 167 ≡ q
  whole_is = ap (λ n. n / 10 ^ 167) parts ∙ div-mul-add q (10 ^ 167) (r * 10 ^ z) rest_below

  rest_is : c * 10 ^ z % 10 ^ 167 ≡ r * 10 ^ z
  rest_is = ap (λ n. n % 10 ^ 167) parts ∙ mod-mul-add q (10 ^ 167) (r * 10 ^ z) rest_below

  last_r : 0 < r % 10
  last_r =
      let (j, e) = case_pos k some in
      let t : 10 ^ k ≡ 10 ^ j * 10 = ap (λ i. 10 ^ i) e ∙ pow-suc 10 j in
      let p : c ≡ q * (10 ^ j * 10) + r = sym (div-add-mod' c (10 ^ k)) ∙ ap (λ n. q * n + r) t in
      let a : q * (10 ^ j * 10) ≡ q * 10 ^ j * 10 = sym (mul_assoc q (10 ^ j) 10) in
      omega (arith, p, a, last)

  fraction_is : fraction_text (r * 10 ^ z) ≡ 46 ∷ glyphs 48 (padded k c)
  fraction_is =
      let above : 0 < r * 10 ^ z = mul-pos (omega (arith, last_r)) (ten_pow_pos z) in
      let count : 167 - trailing_zeros (r * 10 ^ z) ≡ k =
      omega (arith, trailing_zeros-mul r z last_r, sum) in
      let digits : padded 167 (r * 10 ^ z) ≡ padded k r ++ padded z (r * 10 ^ z) =
      ap (λ i. padded i (r * 10 ^ z)) (sym sum) ∙ padded-append k z (r * 10 ^ z)
      ∙ ap (λ n. padded k n ++ padded z (r * 10 ^ z)) (mul-div_cancel r (ten_pow_pos z)) in
      let front : take k (padded k r ++ padded z (r * 10 ^ z)) ≡ padded k r =
      ap (λ i. take i (padded k r ++ padded z (r * 10 ^ z))) (sym (length-padded k r))
      ∙ take-append_seam (padded k r) (padded z (r * 10 ^ z)) in
      fraction_text-above (r * 10 ^ z) above
      ∙ ap (λ i. 46 ∷ glyphs 48 (take i (padded 167 (r * 10 ^ z)))) count
      ∙ ap (λ ds. 46 ∷ glyphs 48 (take k ds)) digits
      ∙ ap (λ ds. 46 ∷ glyphs 48 ds) (front ∙ padded-mod k c)

  unsigned-split : unsigned_text (c * 10 ^ z) ≡ whole_text q ++ (46 ∷ glyphs 48 (padded k c))
  unsigned-split =
      ap (λ n. whole_text n ++ fraction_text (c * 10 ^ z % 10 ^ 167)) whole_is
      ∙ ap (λ n. whole_text q ++ fraction_text n) rest_is
      ∙ ap (λ ds. whole_text q ++ ds) fraction_is

  -- digits stand before the point
  pub unsigned-amid : (j : ℕ) → width c ≡ j + k → 0 < j
      → unsigned_text (c * 10 ^ z) ≡ magnitude_text (glyphs 48 (padded (width c) c)) z
  unsigned-amid j e j_pos =
      let d = glyphs 48 (padded (width c) c) in
      let w : width q ≡ j = width-div c k j e j_pos in
      let q_pos : 0 < q = above_width q (omega (arith, w, j_pos)) in
      let whole : whole_text q ≡ glyphs 48 (padded j q) =
      whole_text-above q q_pos ∙ ap (λ i. glyphs 48 (padded i q)) w in
      let cut : d ≡ glyphs 48 (padded j q) ++ glyphs 48 (padded k c) =
      ap (λ i. glyphs 48 (padded i c)) e ∙ ap (glyphs 48) (padded-append j k c)
      ∙ glyphs-append 48 (padded j q) (padded k c) in
      let n : length d + z - 167 ≡ length (glyphs 48 (padded j q)) =
      omega (arith, length-digits (width c) c, length-digits j q, e, sum) in
      let front : take (length d + z - 167) d ≡ glyphs 48 (padded j q) =
      ap (λ i. take i d) n ∙ ap (take (length (glyphs 48 (padded j q)))) cut
      ∙ take-append_seam (glyphs 48 (padded j q)) (glyphs 48 (padded k c)) in
      let back : drop (length d + z - 167) d ≡ glyphs 48 (padded k c) =
      ap (λ i. drop i d) n ∙ ap (drop (length (glyphs 48 (padded j q)))) cut
      ∙ drop-append_seam (glyphs 48 (padded j q)) (glyphs 48 (padded k c)) in
      unsigned-split ∙ ap (λ ds. ds ++ (46 ∷ glyphs 48 (padded k c))) whole
      ∙ sym (text_split d z (omega (arith, sum)) (omega (arith, length-digits (width c) c, e, sum))
      ∙ ap (λ ds. ds ++ (46 ∷ drop (length d + z - 167) d)) front
      ∙ ap (λ ds. glyphs 48 (padded j q) ++ (46 ∷ ds)) back)

  -- the point stands before all digits
  pub unsigned-below : (j : ℕ) → j + width c ≡ k
      → unsigned_text (c * 10 ^ z) ≡ magnitude_text (glyphs 48 (padded (width c) c)) z
  unsigned-below j e =
      let d = glyphs 48 (padded (width c) c) in
      let small : c < 10 ^ k = omega (arith, lt-width c, ten_pow-le (width c) k (omega (arith, e)))
      in
      let none : q ≡ 0 = div-eq_of_lt small in
      let filled : glyphs 48 (padded k c) ≡ replicate j 48 ++ d =
      ap (λ i. glyphs 48 (padded i c)) (sym e)
      ∙ ap (glyphs 48) (padded-wide j (width c) c (lt-width c))
      ∙ glyphs-append 48 (replicate j 0) (padded (width c) c)
      ∙ ap (λ ds. ds ++ d) (glyphs-zeros j) in
      let n : 167 - (length d + z) ≡ j = omega (arith, length-digits (width c) c, e, sum) in
      unsigned-split ∙ ap (λ i. whole_text i ++ (46 ∷ glyphs 48 (padded k c))) none
      ∙ ap (λ ds. ds ++ (46 ∷ glyphs 48 (padded k c))) whole_text-zero
      ∙ ap (λ ds. 48 ∷ 46 ∷ ds) filled
      ∙ ap (λ i. 48 ∷ 46 ∷ (replicate i 48 ++ d)) (sym n)
      ∙ sym (text_fraction d z (omega (arith, sum))
      (omega (arith, length-digits (width c) c, e, sum)))

-- ---- the printed form of a `Decimal`

-- the bytes of a coefficient's digits
abbrev pub digits_text : ℕ → List ℕ
digits_text c = glyphs 48 (padded (width c) c)

-- a number above zero, printed without a sign
pub unsigned-text : (c z : ℕ) → 0 < c % 10 → unsigned_text (c * 10 ^ z)
    ≡ magnitude_text (digits_text c) z
unsigned-text c z last = elim (cases_lt z 167) [
  | inl short ↦ elim (cases_lt (167 - z) (width c)) [
    | inl amid ↦ unsigned-amid c z (167 - z) (omega arith) (omega arith) last (width c - (167 - z))
        (omega arith) (omega arith)
    | inr below ↦ unsigned-below c z (167 - z) (omega arith) (omega arith) last (167 - z - width c)
        (omega arith)
  ]
  | inr long ↦ unsigned-whole c z (omega arith) long
]

-- a number that isn't zero, printed
pub printed-units_of : (d : Inside) → IsNormal d → 0 < d.coefficient
    → printed (units_of d) ≡ minus_if d.negative
    ++ magnitude_text (digits_text d.coefficient) d.zeros
unfolding printed
printed-units_of d n above =
    let m = d.coefficient * 10 ^ d.zeros in
    rw (
      is_negative-with_sign d.negative m (mul-pos above (ten_pow_pos d.zeros)),
      nat_abs-with_sign d.negative m,
    )
    (ap (λ ds. minus_if d.negative ++ ds) (unsigned-text d.coefficient d.zeros
    (n.no_zero_behind above)))

-- zero, printed
pub printed-zero : printed (pos 0) ≡ 48 ∷ []
unfolding printed whole_text fraction_text
printed-zero = refl

-- the digits of a coefficient that is filled up to 38
pub front_digits : (c w : ℕ) → w ≡ width c → w ≤ 38
    → take w (glyphs 48 (padded 38 (c * 10 ^ (38 - w)))) ≡ digits_text c
front_digits c w e few =
    let k = 38 - w in
    let sum : 38 ≡ w + k = omega arith in
    let cut : glyphs 48 (padded 38 (c * 10 ^ k))
    ≡ glyphs 48 (padded w c) ++ glyphs 48 (padded k (c * 10 ^ k)) =
    ap (λ i. glyphs 48 (padded i (c * 10 ^ k))) sum
    ∙ ap (glyphs 48) (padded-append w k (c * 10 ^ k))
    ∙ ap (λ n. glyphs 48 (padded w n ++ padded k (c * 10 ^ k))) (mul-div_cancel c (ten_pow_pos k))
    ∙ glyphs-append 48 (padded w c) (padded k (c * 10 ^ k)) in
    ap (take w) cut ∙ ap (λ i. take i (glyphs 48 (padded w c) ++ glyphs 48 (padded k (c * 10 ^ k))))
    (sym (length-digits w c))
    ∙ take-append_seam (glyphs 48 (padded w c)) (glyphs 48 (padded k (c * 10 ^ k)))
    ∙ ap (λ i. glyphs 48 (padded i c)) e

-- as many bytes as digits
pub length-digits_text : (c : ℕ) → length (digits_text c) ≡ width c
length-digits_text c = length-digits (width c) c
