-- The one spelling of a number in bytes, in whose byte order keys lie (docs/formats/number.md).
use Rattle.std.specs.Prelude.{ℕ, ◌+◌, ◌-◌, ◌*◌, ◌==◌, if◌then◌else◌, List, [], ◌∷◌, ◌++◌, map, ℤ, nat_abs}
use Rattle.std.specs.Int.{is_negative}
use Rattle.std.specs.Int.Digits.{digits_of}
use Rattle.alt_decimal.specs.Digits.{width, trimmed}

-- the first bytes: of a negative number, of zero and of a positive one
abbrev pub below_zero : ℕ
below_zero = 1

-- the first byte of the spelling of zero
abbrev pub at_zero : ℕ
at_zero = 2

-- that of a number above zero
abbrev pub above_zero : ℕ
above_zero = 3

-- Digits in pairs from the first on, each pair as its value plus 1; a last single digit is filled with 0.
abbrev pub digit_pairs : List ℕ → List ℕ
digit_pairs [] = []
digit_pairs (a ∷ []) = (10 * a + 1) ∷ []
digit_pairs (a ∷ b ∷ digits) = (10 * a + b + 1) ∷ digit_pairs digits

-- Of m units: the exponent of the first digit plus 130, the pairs of its digits without trailing zeros, and 0. The first of
-- `width m` digits stands at 10^(width m - 168).
unfoldable pub magnitude_bytes : ℕ → List ℕ
magnitude_bytes m = (width m - 38) ∷ (digit_pairs (digits_of 10 (trimmed m)) ++ 0 ∷ [])

-- each byte subtracted from 255
abbrev pub complement : List ℕ → List ℕ
complement bytes = map (λ b. 255 - b) bytes

-- zero is one byte; below zero all bytes but the first are flipped
unfoldable pub spelled : ℤ → List ℕ
spelled z =
    if nat_abs z == 0 then at_zero ∷ []
    else if is_negative z then below_zero ∷ complement (magnitude_bytes (nat_abs z))
    else above_zero ∷ magnitude_bytes (nat_abs z)
