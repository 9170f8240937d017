-- What the fields of a `Decimal` say: one representation a number.
use Rattle.std.specs.Prelude.{◌≡◌, ◌*◌, ◌%◌, ◌^◌, ◌<◌, ◌≤◌, false, ℤ}
use Rattle.alt_decimal.specs.declared.Decimal.TheInside.{Inside}
use Rattle.alt_decimal.specs.Number.{with_sign}
use Rattle.alt_decimal.specs.Digits.{trailing_zeros, trimmed}
use Rattle.std.specs.Prelude.{nat_abs}
use Rattle.std.specs.Int.{is_negative}

-- the units: coefficient * 10^zeros, negative or not
abbrev pub units_of : Inside → ℤ
units_of d = with_sign d.negative (d.coefficient * 10 ^ d.zeros)

-- The coefficient has at most 38 digits, and the last is not 0; zero has no sign and no zeros; the magnitude is one that fits.
pub record IsNormal (d : Inside) : Type 0 where
  pub digits : d.coefficient < 10 ^ 38
  pub no_zero_behind : 0 < d.coefficient → 0 < d.coefficient % 10
  pub zero_sign : d.coefficient ≡ 0 → d.negative ≡ false
  pub zero_zeros : d.coefficient ≡ 0 → d.zeros ≡ 0
  pub few_zeros : d.zeros ≤ 292
  pub least : 0 < d.coefficient → 10 ^ 37 ≤ d.coefficient * 10 ^ d.zeros
  pub below : d.coefficient * 10 ^ d.zeros < 10 ^ 293

-- the fields of a number of units
unfoldable pub decimal_fields : ℤ → Inside
decimal_fields z = record {
  negative = is_negative z;
  coefficient = trimmed (nat_abs z);
  zeros = trailing_zeros (nat_abs z);
}
