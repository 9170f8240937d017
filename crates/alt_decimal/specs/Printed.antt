-- The one text that a number is printed as: plain decimal notation, without exponent and needless zeros.
use Rattle.std.specs.Prelude.{ℕ, ◌-◌, ◌/◌, ◌%◌, ◌^◌, ◌==◌, if◌then◌else◌, List, [], ◌∷◌, ◌++◌, take, ℤ, nat_abs}
use Rattle.std.specs.Int.{is_negative}
use Rattle.std.specs.Int.Digits.{digits_of}
use Rattle.std.specs.Fmt.{sign_text as minus_if}
use Rattle.alt_decimal.specs.Digits.{trailing_zeros, padded, glyphs}

-- digits as the characters that write them
abbrev pub ascii : List ℕ → List ℕ
ascii digits = glyphs 48 digits

-- a whole number, with `0` for zero
unfoldable pub whole_text : ℕ → List ℕ
whole_text n = if n == 0 then 48 ∷ [] else ascii (digits_of 10 n)

-- a point and the digits of n units up to the last that is not 0; nothing where n is 0
unfoldable pub fraction_text : ℕ → List ℕ
fraction_text n = if n == 0 then [] else 46 ∷ ascii (take (167 - trailing_zeros n) (padded 167 n))

-- `-` before a negative number; `0` before the point of a number below 1
unfoldable pub printed : ℤ → List ℕ
printed z = minus_if (is_negative z) ++ (whole_text (nat_abs z / 10 ^ 167)
    ++ fraction_text (nat_abs z % 10 ^ 167))
