-- The printed form of a number reads as the number.
use Rattle.std.proofs.Common.{◌≡◌, ℕ, zero, suc, ◌+◌, ◌-◌, ◌*◌, ◌/◌, ◌%◌, ◌^◌, ◌<◌, ◌≤◌, Bool, true, false, List, [], ◌∷◌, ◌++◌, length, take, drop, refl, sym, ap, ◌∙◌, subst, arith, replicate, length-append, length-take, length-drop, inl, inr, Ok, Some, None, Option}
use Rattle.std.specs.Prelude.{ℤ, pos, Result}
use Rattle.std.specs.Fmt.{sign_text as minus_if}
use Rattle.std.specs.Char.{digit_value}
use Rattle.std.specs.Str.Parse.{AllDigits, digits_value}
use Rattle.std.proofs.lemmas.Int.Digits.{digits_value_push, digits_push}
use Rattle.std.proofs.lemmas.List.{append-nil, length-replicate, take-append-drop}
use Rattle.std.proofs.lemmas.Bool.{cases_lt}
use Rattle.std.proofs.lemmas.Nat.{div_below}
use Rattle.std.proofs.Math.Nat.{pow-suc}
use Rattle.alt_base.proofs.Numbers.{digits_value-zeros}
use Rattle.alt_decimal.specs.Digits.{width, padded, glyphs}
use Rattle.alt_decimal.specs.Number.{with_sign, fitted}
use Rattle.alt_decimal.specs.NumberText.{Sign, minus, unsigned, TextReadsAs, sign_text, fraction_text, fraction_digits}
use Rattle.alt_decimal.specs.declared.fault.NumberFault.{NumberFault}
use Rattle.alt_decimal.specs.declared.Decimal.TheInside.{Inside}
use Rattle.alt_decimal.specs.Form.{units_of, IsNormal}
use Rattle.alt_decimal.specs.Printed.{printed}
use Rattle.alt_decimal.specs.Layout.{magnitude_text}
use Rattle.alt_decimal.proofs.Widths.{lt-width, width-le, width-pos, mul-width_gt, mul-width_le}
use Rattle.alt_decimal.proofs.Padded.{padded-none, padded-last, glyphs-append, glyphs-cons, glyphs-none}
use Rattle.alt_decimal.proofs.Values.{value_zeros_behind, AllDigits-append, AllDigits-front, AllDigits-back}
use Rattle.alt_decimal.proofs.Fitting.{number, fitted-zero, fitted-ok, ok_units, fitted-shift}
use Rattle.alt_decimal.proofs.Magnitudes.{digit_count-trimmed}
use Rattle.alt_decimal.proofs.Layouts.{text_whole, text_split, text_fraction}
use Rattle.alt_decimal.proofs.Printing.{digits_text, length-digits_text, printed-units_of, printed-zero}
use Rattle.alt_decimal.proofs.Reading.{ReadsAs-some}

-- ---- digits and their bytes

-- the digit of a byte
digit_glyph : (d : ℕ) → d < 10 → digit_value (48 + d) ≡ d
digit_glyph d h = grind arith

AllDigits-glyphs : (k n : ℕ) → AllDigits 10 (glyphs 48 (padded k n))
AllDigits-glyphs zero n = rw (padded-none n, glyphs-none 48) tt
AllDigits-glyphs (suc k) n =
    let small : n % 10 < 10 = omega arith in
    rw (
      padded-last k n,
      glyphs-append 48 (padded k (n / 10)) (n % 10 ∷ []),
      glyphs-cons 48 (n % 10) [],
      glyphs-none 48,
    )
    (digits_push 10 (glyphs 48 (padded k (n / 10))) (48 + n % 10) (AllDigits-glyphs k (n / 10))
    (rw (digit_glyph (n % 10) small) small))

-- the number of digits as bytes
value_glyphs : (k n : ℕ) → n < 10 ^ k → digits_value 10 (glyphs 48 (padded k n)) ≡ n
value_glyphs zero n h = rw (padded-none n, glyphs-none 48) (omega (arith, h))
value_glyphs (suc k) n h =
    let small : n % 10 < 10 = omega arith in
    let shorter : n / 10 < 10 ^ k = div_below n 10 (10 ^ k) (omega arith) (rw (← pow-suc 10 k) h) in
    rw (
      padded-last k n,
      glyphs-append 48 (padded k (n / 10)) (n % 10 ∷ []),
      glyphs-cons 48 (n % 10) [],
      glyphs-none 48,
    )
    (digits_value_push 10 (glyphs 48 (padded k (n / 10))) (48 + n % 10)
    ∙ omega (arith, value_glyphs k (n / 10) shorter, digit_glyph (n % 10) small))

-- of all digits of a number
value_digits : (c : ℕ) → digits_value 10 (digits_text c) ≡ c
value_digits c = value_glyphs (width c) c (lt-width c)

AllDigits-zeros : (k : ℕ) → AllDigits 10 (replicate k 48)
AllDigits-zeros zero = tt
AllDigits-zeros (suc k) = (omega arith, AllDigits-zeros k)

-- ---- the sign

-- the sign that is printed
abbrev sign_for : Bool → Sign
sign_for true = minus
sign_for false = unsigned

sign_for-text : (negative : Bool) → minus_if negative ≡ sign_text (sign_for negative)
sign_for-text true = refl
sign_for-text false = refl

-- ---- a text of digits with or without a point

-- The text of these digits reads as what their number gives.
reads_parts : (negative : Bool) (whole : List ℕ) (fraction : Option (List ℕ))
    (answer : Result ℤ NumberFault)
    → AllDigits 10 whole → AllDigits 10 (fraction_digits fraction) → 0 < length whole
    → answer ≡ fitted (number negative (digits_value 10 (whole ++ fraction_digits fraction)) 0
    (0 + length (fraction_digits fraction)))
    → TextReadsAs (minus_if negative ++ (whole ++ fraction_text fraction)) answer
reads_parts true whole fraction answer all_whole all_fraction some gives =
    ReadsAs-some _ (record { sign = minus; whole = whole; fraction = fraction; exponent = None })
    answer
    (record { whole = all_whole; fraction = all_fraction; digit = omega arith; exponent = tt })
    (ap (λ ts. minus_if true ++ (whole ++ ts)) (sym (append-nil (fraction_text fraction)))) gives
reads_parts false whole fraction answer all_whole all_fraction some gives =
    ReadsAs-some _ (record { sign = unsigned; whole = whole; fraction = fraction; exponent = None })
    answer
    (record { whole = all_whole; fraction = all_fraction; digit = omega arith; exponent = tt })
    (ap (λ ts. minus_if false ++ (whole ++ ts)) (sym (append-nil (fraction_text fraction)))) gives

-- ---- the digits of a `Decimal`

module _ (d : Inside) (n : IsNormal d) (above : 0 < d.coefficient) where
  abbrev c : ℕ
  c = d.coefficient

  abbrev z : ℕ
  z = d.zeros

  last : 0 < c % 10
  last = n.no_zero_behind above

  low : 37 < width c + z
  low = mul-width_gt c z 37 (n.least above)

  high : width c + z ≤ 293
  high = mul-width_le c z 293 above n.below

  -- with its last digit at that place it is the number
  gives : (up down : ℕ) → up + 167 ≡ z + down → up ≤ z
      → Ok (units_of d) ≡ fitted (number d.negative c up down)
  gives up down place less =
      let exact : up + 167 - down ≡ z = omega arith in
      let units : c * 10 ^ z ≡ c * 10 ^ (up + 167) / 10 ^ down =
      ap (λ i. c * 10 ^ i) (sym exact) ∙ ok_units c up down (omega arith) in
      ap (λ m. Ok (with_sign d.negative m)) units
      ∙ sym (fitted-ok d.negative c up down above
      (omega (arith, digit_count-trimmed c last, width-le 38 c n.digits))
      (omega (arith, low, high)) (omega (arith, low, high)))

  all : AllDigits 10 (digits_text c)
  all = AllDigits-glyphs (width c) c

  some : 0 < length (digits_text c)
  some = omega (arith, length-digits_text c, width-pos c above)

  reads_whole : 167 ≤ z → TextReadsAs (minus_if d.negative ++ magnitude_text (digits_text c) z)
      (Ok (units_of d))
  reads_whole h =
      let k = z - 167 in
      let whole = digits_text c ++ replicate k 48 in
      let value : digits_value 10 (whole ++ []) ≡ c * 10 ^ k =
      ap (digits_value 10) (append-nil whole) ∙ value_zeros_behind (digits_text c) k
      ∙ ap (λ m. m * 10 ^ k) (value_digits c) in
      let answer : Ok (units_of d) ≡ fitted (number d.negative (digits_value 10 (whole ++ [])) 0
      (0 + 0)) =
      gives (k + 0) 0 (omega arith) (omega arith) ∙ sym (fitted-shift d.negative c k 0 0 last)
      ∙ ap (λ m. fitted (number d.negative m 0 0)) (sym value) in
      subst (λ (ts : List ℕ). TextReadsAs (minus_if d.negative ++ ts) (Ok (units_of d)))
      (append-nil whole ∙ sym (text_whole (digits_text c) z h))
      (reads_parts d.negative whole None (Ok (units_of d))
      (AllDigits-append (digits_text c) (replicate k 48) all (AllDigits-zeros k)) tt
      (omega (arith, length-append (digits_text c) (replicate k 48), some)) answer)

  reads_split : z < 167 → 167 < length (digits_text c) + z
      → TextReadsAs (minus_if d.negative ++ magnitude_text (digits_text c) z) (Ok (units_of d))
  reads_split h k =
      let ds = digits_text c in
      let i = length ds + z - 167 in
      let parts : take i ds ++ drop i ds ≡ ds = take-append-drop i ds in
      let value : digits_value 10 (take i ds ++ drop i ds) ≡ c =
      ap (digits_value 10) parts ∙ value_digits c in
      let both : AllDigits 10 (take i ds ++ drop i ds) = rw parts all in
      let len : 0 + length (drop i ds) ≡ 167 - z = omega (arith, length-drop i ds, k, h) in
      let answer : Ok (units_of d) ≡ fitted (number d.negative
      (digits_value 10 (take i ds ++ drop i ds)) 0 (0 + length (drop i ds))) =
      gives 0 (167 - z) (omega (arith, h)) (omega arith)
      ∙ ap (λ m. fitted (number d.negative m 0 (167 - z))) (sym value)
      ∙ ap (λ m. fitted (number d.negative (digits_value 10 (take i ds ++ drop i ds)) 0 m))
      (sym len) in
      subst (λ (ts : List ℕ). TextReadsAs (minus_if d.negative ++ ts) (Ok (units_of d)))
      (sym (text_split ds z h k))
      (reads_parts d.negative (take i ds) (Some (drop i ds)) (Ok (units_of d))
      (AllDigits-front (take i ds) (drop i ds) both)
      (AllDigits-back (take i ds) (drop i ds) both) (omega (arith, length-take i ds, k)) answer)

  reads_fraction : z < 167 → length (digits_text c) + z ≤ 167
      → TextReadsAs (minus_if d.negative ++ magnitude_text (digits_text c) z) (Ok (units_of d))
  reads_fraction h k =
      let ds = digits_text c in
      let j = 167 - (length ds + z) in
      let fraction = replicate j 48 ++ ds in
      let value : digits_value 10 ((48 ∷ []) ++ fraction) ≡ c =
      digits_value-zeros (suc j) ds ∙ value_digits c in
      let len : 0 + length fraction ≡ 167 - z =
      omega (arith, length-append (replicate j 48) ds, length-replicate {A = ℕ} j 48, k, h) in
      let answer : Ok (units_of d) ≡ fitted (number d.negative
      (digits_value 10 ((48 ∷ []) ++ fraction)) 0 (0 + length fraction)) =
      gives 0 (167 - z) (omega (arith, h)) (omega arith)
      ∙ ap (λ m. fitted (number d.negative m 0 (167 - z))) (sym value)
      ∙ ap (λ m. fitted (number d.negative (digits_value 10 ((48 ∷ []) ++ fraction)) 0 m))
      (sym len) in
      subst (λ (ts : List ℕ). TextReadsAs (minus_if d.negative ++ ts) (Ok (units_of d)))
      (sym (text_fraction ds z h k))
      (reads_parts d.negative (48 ∷ []) (Some fraction) (Ok (units_of d)) (omega arith, tt)
      (AllDigits-append (replicate j 48) ds (AllDigits-zeros j) all) (omega arith) answer)

-- a printed number reads as itself
pub reads_units : (d : Inside) (n : IsNormal d) → 0 < d.coefficient
    → TextReadsAs (printed (units_of d)) (Ok (units_of d))
reads_units d n above = rw (printed-units_of d n above) (elim (cases_lt d.zeros 167) [
  | inl short ↦ elim (cases_lt 167 (length (digits_text d.coefficient) + d.zeros)) [
    | inl amid ↦ reads_split d n above short amid
    | inr below ↦ reads_fraction d n above short below
  ]
  | inr long ↦ reads_whole d n above long
])

-- and so does zero
pub reads_zero : TextReadsAs (printed (pos 0)) (Ok (pos 0))
reads_zero = rw printed-zero (reads_parts false (48 ∷ []) None (Ok (pos 0)) (omega arith, tt) tt
    (omega arith) (sym (fitted-zero false 0 0 0 refl)))
