-- Which numbers a `Decimal` holds, and why another number is refused.
--
-- A `Decimal` is seen as a whole number of units of 10^-167. The least magnitude is 1E-130, and 38 digits reach from a first
-- digit at 10^-130 down to 10^-167, so that each number that fits is a whole number of these units.
-- Limits of the type N: DynamoDB Developer Guide, "Data types", "Number".
use Rattle.std.specs.Prelude.{◌≡◌, ℕ, ◌+◌, ◌*◌, ◌/◌, ◌^◌, ◌<◌, ◌≤◌, ◌==◌, nat_lt, if◌then◌else◌, ◌⊎◌, Bool, ℤ, pos, neg_ℤ, nat_abs, Result, Ok, Err}
use Rattle.std.specs.Int.{is_negative}
use Rattle.alt_decimal.specs.declared.fault.NumberFault.{NumberFault}
use Rattle.alt_decimal.specs.declared.fault.NumberFault.TheVariants.{TooManyDigits, TooLarge, TooSmall}
use Rattle.alt_decimal.specs.Digits.{width, digit_count}

-- n, or -n
abbrev pub with_sign : Bool → ℕ → ℤ
with_sign negative n = if negative then neg_ℤ (pos n) else pos n

-- the number c * 10^up / 10^down, or the one below zero
pub record Number : Type 0 where
  pub negative : Bool
  pub c : ℕ
  pub up : ℕ
  pub down : ℕ

-- The number where it fits, in units of 10^-167, else why it doesn't: over 38 digits, a first digit above 10^125, or one below
-- 10^-130. The first digit stands at 10^(width c - 1 + up - down).
unfoldable pub fitted : Number → Result ℤ NumberFault
fitted n =
    if n.c == 0 then Ok (pos 0)
    else if nat_lt 38 (digit_count n.c) then Err TooManyDigits
    else if nat_lt (126 + n.down) (width n.c + n.up) then Err TooLarge
    else if nat_lt (width n.c + n.up + 129) n.down then Err TooSmall
    else Ok (with_sign n.negative (n.c * 10 ^ (n.up + 167) / 10 ^ n.down))

-- the whole number n, in units
abbrev pub units_in : ℕ → ℤ
units_in n = pos (n * 10 ^ 167)

-- a whole number of units
abbrev pub of_units : ℤ → Number
of_units z = record { negative = is_negative z; c = nat_abs z; up = 0; down = 167 }

-- the number of units where it fits, else why it doesn't
abbrev pub fitted_units : ℤ → Result ℤ NumberFault
fitted_units z = fitted (of_units z)

-- a magnitude of at most 38 digits, from 1E-130 to 9.99..E+125
pub record IsMagnitude (m : ℕ) : Type 0 where
  pub few_digits : digit_count m ≤ 38
  pub least : 10 ^ 37 ≤ m
  pub below : m < 10 ^ 293

-- the numbers that a `Decimal` can be
abbrev pub FitsDecimal : ℤ → Type 0
FitsDecimal z = (z ≡ pos 0) ⊎ IsMagnitude (nat_abs z)
