-- The coefficient that trimmed digits write, and exponents past which every number is refused.
use Rattle.std.proofs.Common.{◌≡◌, ◌≢◌, ℕ, ◌+◌, ◌-◌, ◌*◌, ◌%◌, ◌^◌, ◌<◌, ◌≤◌, Bool, List, [], ◌∷◌, ◌++◌, length, get_or, min, refl, sym, ap, ◌∙◌, subst, arith, inl, inr, Ok, Err}
use Rattle.std.specs.Prelude.{pos}
use Rattle.std.proofs.lemmas.Bool.{cases_lt}
use Rattle.std.specs.Str.Parse.{AllDigits, digits_value}
use Rattle.std.proofs.lemmas.Int.Digits.{digits_value-lt}
use Rattle.alt_base.proofs.Numbers.{digits_value-zeros}
use Rattle.alt_decimal.specs.Digits.{digit_count}
use Rattle.alt_decimal.specs.Coefficient.{IsCoefficient, Trims}
use Rattle.alt_decimal.specs.Number.{fitted}
use Rattle.alt_decimal.specs.Reading.{capped}
use Rattle.alt_decimal.specs.declared.fault.NumberFault.TheVariants.{TooManyDigits}
use Rattle.alt_decimal.proofs.Widths.{ten_pow-le, width-gt, width-le, case_pos}
use Rattle.alt_decimal.proofs.Magnitudes.{digit_count-mul, digit_count-trimmed}
use Rattle.alt_decimal.proofs.Fitting.{number, fitted-zero, fitted-many, fitted-large, fitted-small, fitted-shift}
use Rattle.alt_decimal.proofs.Trimming.{zeros}
use Rattle.alt_decimal.proofs.Values.{value_zeros_behind, value_first, value_last, AllDigits-append, AllDigits-front, AllDigits-back}

-- a number above 0 has a digit
some_digit : (ds : List ℕ) → 0 < digits_value 10 ds → 0 < length ds
some_digit [] h = h
some_digit (d ∷ ds) h = omega arith

-- trimmed digits write the number, with the zeros behind them
module _ (whole fraction w f : List ℕ) (behind : ℕ) (t : Trims whole fraction w f behind)
    (all_whole : AllDigits 10 whole) (all_fraction : AllDigits 10 fraction) where
  all_digits : AllDigits 10 (zeros (t.digits.0) ++ (w ++ f) ++ zeros behind)
  all_digits = subst (AllDigits 10) t.digits.1
      (AllDigits-append whole fraction all_whole all_fraction)

  -- what is left of digits that are trimmed are digits
  pub all_trimmed : AllDigits 10 (w ++ f)
  all_trimmed = AllDigits-back (zeros t.digits.0) (w ++ f)
      (AllDigits-front (zeros t.digits.0 ++ (w ++ f)) (zeros behind) all_digits)

  -- the number of all digits is that of the trimmed ones, with the zeros behind them
  pub trimmed_value : digits_value 10 (whole ++ fraction) ≡ digits_value 10 (w ++ f) * 10 ^ behind
  trimmed_value =
      ap (digits_value 10) t.digits.1 ∙ value_zeros_behind (zeros t.digits.0 ++ (w ++ f)) behind
      ∙ ap (λ v. v * 10 ^ behind) (digits_value-zeros t.digits.0 (w ++ f))

  -- their last digit is not 0
  pub last_trimmed : 0 < length (w ++ f) → 0 < digits_value 10 (w ++ f) % 10
  last_trimmed some =
      let (n, e) = case_pos (length (w ++ f)) some in
      let at : length (w ++ f) - 1 ≡ n = omega arith in
      value_last (w ++ f) n all_trimmed e (rw (← at) (t.last some))

  -- more than 38 are too many
  pub many_trimmed : 38 < length (w ++ f) → 38 < digit_count (digits_value 10 (whole ++ fraction))
  many_trimmed many =
      let some : 0 < length (w ++ f) = omega arith in
      let (n, e) = case_pos (length (w ++ f)) some in
      let long : 10 ^ n ≤ digits_value 10 (w ++ f) =
      value_first (w ++ f) n all_trimmed e (t.first some) in
      omega (
        arith,
        ap digit_count trimmed_value,
        digit_count-mul (digits_value 10 (w ++ f)) behind (last_trimmed some),
        width-gt n _ long,
      )

  -- 38 trimmed digits and fewer are a coefficient
  pub coefficient_trimmed : length (w ++ f) ≤ 38
      → IsCoefficient (digits_value 10 (whole ++ fraction)) (digits_value 10 (w ++ f)) behind
  coefficient_trimmed few = record {
    value = trimmed_value;
    last = λ above. last_trimmed (some_digit (w ++ f) above);
    few = omega (
      arith,
      digits_value-lt 10 (w ++ f) all_trimmed,
      ten_pow-le (length (w ++ f)) 38 few,
    );
    room = t.room;
  }

-- ---- exponents

-- an exponent at both sides of its cap
capped_short : (v : ℕ) → v < 10 ^ 36 → v ≡ min v (10 ^ 36)
capped_short v h = omega arith

capped_long : (v : ℕ) → 10 ^ 36 ≤ v → 10 ^ 36 ≡ min v (10 ^ 36)
capped_long v h = omega arith

-- the value of few digits behind zeros
pub capped_few : (digits short : List ℕ) (j : ℕ) → digits ≡ zeros j ++ short → AllDigits 10 short
    → length short ≤ 36 → digits_value 10 short ≡ capped digits
capped_few digits short j e all few =
    let same : digits_value 10 digits ≡ digits_value 10 short =
    ap (digits_value 10) e ∙ digits_value-zeros j short in
    let below : digits_value 10 short < 10 ^ 36 =
    omega (arith, digits_value-lt 10 short all, ten_pow-le (length short) 36 few) in
    rw same (capped_short (digits_value 10 short) below)

-- many digits pass the cap
pub capped_many : (digits short : List ℕ) (j : ℕ) → digits ≡ zeros j ++ short → AllDigits 10 short
    → (0 < length short → get_or short 0 0 ≢ 48) → 36 < length short
    → 10 ^ 36 ≡ capped digits
capped_many digits short j e all first many =
    let same : digits_value 10 digits ≡ digits_value 10 short =
    ap (digits_value 10) e ∙ digits_value-zeros j short in
    let some : 0 < length short = omega arith in
    let (n, is) = case_pos (length short) some in
    let long : 10 ^ n ≤ digits_value 10 short = value_first short n all is (first some) in
    rw same (capped_long (digits_value 10 short)
    (omega (arith, long, ten_pow-le 36 n (omega arith))))

-- a greater exponent gives the same fault
module _ (negative : Bool) (c : ℕ) (few : c < 10 ^ 38) (last : 0 < c % 10) where
  few_c : digit_count c ≤ 38
  few_c = omega (arith, digit_count-trimmed c last, width-le 38 c few)

  -- an exponent above 0 may be capped at 10^36: the answer is the same
  pub capped_up : (v k d : ℕ) → k < 2 ^ 65 → d < 2 ^ 65
      → fitted (number negative c (k + min v (10 ^ 36)) d) ≡ fitted (number negative c (k + v) d)
  capped_up v k d room_k room_d = elim (cases_lt v (10 ^ 36)) [
    | inl lt ↦ rw (← capped_short v lt) refl
    | inr le ↦
        rw (← capped_long v le)
        (fitted-large negative c (k + 10 ^ 36) d (omega arith) few_c (omega arith)
        ∙ sym (fitted-large negative c (k + v) d (omega arith) few_c (omega arith)))
  ]

  -- so may one below 0
  pub capped_down : (v k d : ℕ) → k < 2 ^ 65 → d < 2 ^ 65
      → fitted (number negative c k (min v (10 ^ 36) + d)) ≡ fitted (number negative c k (v + d))
  capped_down v k d room_k room_d = elim (cases_lt v (10 ^ 36)) [
    | inl lt ↦ rw (← capped_short v lt) refl
    | inr le ↦
        let short = width-le 38 c few in
        rw (← capped_long v le)
        (fitted-small negative c k (10 ^ 36 + d) (omega arith) few_c (omega arith) (omega arith)
        ∙ sym (fitted-small negative c k (v + d) (omega arith) few_c (omega arith) (omega arith)))
  ]

-- ---- the number of digits and an exponent

-- zeros in sums and products
zero_times : (p : ℕ) → 0 * p ≡ 0
zero_times p = omega arith

plus_none : (k : ℕ) → k + 0 ≡ k
plus_none k = omega arith

none_plus : (k : ℕ) → 0 + k ≡ k
none_plus k = omega arith

no_digits : digit_count 0 ≡ 1
unfolding digit_count
no_digits = refl

-- too many digits, whatever the exponent
pub number_many : (negative : Bool) (n up down : ℕ) → 38 < digit_count n
    → fitted (number negative n up down) ≡ Err TooManyDigits
number_many negative n up down many = elim (cases_lt 0 n) [
  | inl above ↦ fitted-many negative n up down above many
  | inr none ↦ let z : n ≡ 0 = omega arith in
      absurd (omega (arith, ap digit_count z, no_digits, many))
]

module _ (negative : Bool) (n c k : ℕ) (is : IsCoefficient n c k) where
  -- a coefficient of 0 is zero, whatever the exponent
  pub number_none : (up down : ℕ) → c ≡ 0 → fitted (number negative n up down) ≡ Ok (pos 0)
  number_none up down z = fitted-zero negative n up down
      (is.value ∙ ap (λ m. m * 10 ^ k) z ∙ zero_times (10 ^ k))

  -- the coefficient, with its zeros in the exponent, stands for the number of all digits
  whole_number : (up down : ℕ) → 0 < c → fitted (number negative c (k + up) down)
      ≡ fitted (number negative n up down)
  whole_number up down above = sym (ap (λ m. fitted (number negative m up down)) is.value
      ∙ fitted-shift negative c k up down (is.last above))

  -- so it does with an exponent below 0 that was capped
  pub number_below : (v places : ℕ) → places < 2 ^ 65 → 0 < c
      → fitted (number negative c k (min v (10 ^ 36) + places))
      ≡ fitted (number negative n 0 (v + places))
  number_below v places room above =
      capped_down negative c is.few (is.last above) v k places is.room room
      ∙ ap (λ up. fitted (number negative c up (v + places))) (sym (plus_none k))
      ∙ whole_number 0 (v + places) above

  -- and with one above 0 that was capped
  pub number_above : (v places : ℕ) → places < 2 ^ 65 → 0 < c
      → fitted (number negative c (k + min v (10 ^ 36)) places)
      ≡ fitted (number negative n v (0 + places))
  number_above v places room above =
      capped_up negative c is.few (is.last above) v k places is.room room
      ∙ ap (λ down. fitted (number negative c (k + v) down)) (sym (none_plus places))
      ∙ whole_number v (0 + places) above
