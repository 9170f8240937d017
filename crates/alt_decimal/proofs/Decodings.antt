-- The number of read pairs.
use Rattle.std.proofs.Common.{◌≡◌, ◌≢◌, ℕ, ◌+◌, ◌-◌, ◌*◌, ◌/◌, ◌%◌, ◌^◌, ◌<◌, ◌≤◌, Bool, refl, ap, ◌∙◌, arith, inl, inr}
use Rattle.std.proofs.lemmas.Nat.{pow-add}
use Rattle.alt_decimal.specs.Digits.{width}
use Rattle.alt_decimal.specs.Number.{with_sign}
use Rattle.alt_decimal.specs.Form.{IsNormal}
use Rattle.alt_decimal.specs.Unspelled.{Decodes}
use Rattle.alt_decimal.proofs.Widths.{width-gt, width-le, ten_pow-le}
use Rattle.alt_decimal.proofs.Magnitudes.{IsNormal-from}

-- all of the 2 n digits
module _ (negative : Bool) (first c n : ℕ) (some : 0 < n) (few : n ≤ 19) (below : c < 10 ^ (2 * n))
    (low : 10 ^ (2 * n - 1) ≤ c) (byte : first < 256) where
  width_c : width c ≡ 2 * n
  width_c = omega (arith, width-gt (2 * n - 1) c low, width-le (2 * n) c below)

  small : c < 10 ^ 38
  small = omega (arith, below, ten_pow-le (2 * n) 38 (omega arith))

  -- pairs whose last digit isn't 0 are a number in normal form
  pub normal_even : 0 < c % 10 → IsNormal (record {
    negative = negative;
    coefficient = c;
    zeros =
        first + 38 - 2 * n;
  })
  normal_even last = IsNormal-from negative c (first + 38 - 2 * n) small last
      (omega (arith, width_c)) (omega (arith, width_c, byte))

  -- and they are read as that number
  pub decodes_even : 0 < c % 10 → Decodes negative first c n
      (with_sign negative (c * 10 ^ (first + 38 - 2 * n)))
  decodes_even last = record {
    coefficient = c;
    behind = first + 38 - 2 * n;
    is = refl;
    last = last;
    few = small;
    place = omega (arith, width_c);
    digits = inl (refl, width_c);
  }

  -- a number whose last digit is 0 is ten times what stands before that
  ten : c % 10 ≡ 0 → c ≡ c / 10 * 10
  ten none = omega (arith, none)

  width_short : c % 10 ≡ 0 → width (c / 10) + 1 ≡ 2 * n
  width_short none =
      let e : 10 ^ (2 * n - 1) ≡ 10 ^ (2 * n - 2) * 10 =
      ap (λ i. 10 ^ i) (omega arith) ∙ pow-add 10 (2 * n - 2) 1 in
      let f : 10 ^ (2 * n) ≡ 10 ^ (2 * n - 1) * 10 =
      ap (λ i. 10 ^ i) (omega arith) ∙ pow-add 10 (2 * n - 1) 1 in
      omega (
        arith,
        width-gt (2 * n - 2) (c / 10) (omega (arith, low, e, ten none)),
        width-le (2 * n - 1) (c / 10) (omega (arith, below, f, ten none)),
      )

  last_short : c % 10 ≡ 0 → c % 100 ≢ 0 → 0 < c / 10 % 10
  last_short none both = omega (arith, none, both)

  -- pairs whose last digit alone is 0 are a number in normal form, by the digits before it
  pub normal_odd : c % 10 ≡ 0 → c % 100 ≢ 0 → IsNormal
      (record { negative = negative; coefficient = c / 10; zeros = first + 39 - 2 * n })
  normal_odd none both =
      IsNormal-from negative (c / 10) (first + 39 - 2 * n) (omega (arith, small))
      (last_short none both)
      (omega (arith, width_short none)) (omega (arith, width_short none, byte))

  -- and they are read as that number
  pub decodes_odd : c % 10 ≡ 0 → c % 100 ≢ 0 → Decodes negative first c n
      (with_sign negative (c / 10 * 10 ^ (first + 39 - 2 * n)))
  decodes_odd none both = record {
    coefficient = c / 10;
    behind = first + 39 - 2 * n;
    is = refl;
    last = last_short none both;
    few = omega (arith, small);
    place = omega (arith, width_short none);
    digits = inr (ten none, width_short none);
  }
