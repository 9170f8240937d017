-- How a text is cut into the parts of a number text, from the front on. `proofs/Reading.antt` shows that it is the grammar of
-- `NumberText` that this reads.
use Rattle.std.specs.Prelude.{◌≡◌, ℕ, ◌+◌, ◌^◌, ◌==◌, ◌||◌, nat_lt, min, if◌then◌else◌, Bool, false, List, [], ◌∷◌, length, take, drop, Option, Some, None}
use Rattle.std.specs.Float.Numeral.{digits_len}
use Rattle.std.specs.Str.Parse.{digits_value}
use Rattle.alt_decimal.specs.NumberText.{Sign, minus, plus, unsigned, Exponent, NumberText, fraction_digits, is_minus}

-- the sign at the front
abbrev pub sign_of : List ℕ → Sign
sign_of [] = unsigned
sign_of (b ∷ bs) = if b == 45 then minus else if b == 43 then plus else unsigned

-- what stands behind it
abbrev pub behind_sign : List ℕ → List ℕ
behind_sign [] = []
behind_sign (b ∷ bs) = if b == 45 then bs else if b == 43 then bs else b ∷ bs

-- the digits at the front
abbrev pub front_digits : List ℕ → List ℕ
front_digits bs = take (digits_len bs) bs

-- what stands behind the digits at the front
abbrev pub behind_digits : List ℕ → List ℕ
behind_digits bs = drop (digits_len bs) bs

-- the digits behind a point
abbrev pub fraction_of : List ℕ → Option (List ℕ)
fraction_of [] = None
fraction_of (b ∷ bs) = if b == 46 then Some (front_digits bs) else None

-- what stands behind the fraction at the front
abbrev pub behind_fraction : List ℕ → List ℕ
behind_fraction [] = []
behind_fraction (b ∷ bs) = if b == 46 then behind_digits bs else b ∷ bs

-- the exponent whose sign and digits are given, where these are one digit or more and nothing else
abbrev pub exponent_from : Bool → Sign → List ℕ → Option (Option Exponent)
exponent_from upper sign bs =
    if digits_len bs == 0 || nat_lt (digits_len bs) (length bs) then None
    else Some (Some (record { upper = upper; sign = sign; digits = bs }))

-- the exponent that a text is, or no exponent where it is empty
abbrev pub exponent_of : List ℕ → Option (Option Exponent)
exponent_of [] = Some None
exponent_of (b ∷ bs) = if b == 101 || b == 69 then exponent_from (b == 69) (sign_of bs)
    (behind_sign bs) else None

-- whether an exponent is below zero
abbrev pub below_of : Option Exponent → Bool
below_of None = false
below_of (Some e) = is_minus e.sign

-- the digits of an exponent, if there is one
abbrev pub exponent_digits : Option Exponent → List ℕ
exponent_digits None = []
exponent_digits (Some e) = e.digits

-- there is such an exponent, or none
abbrev pub ExponentIs : Option (Option Exponent) → Bool → List ℕ → Type 0
ExponentIs o below digits = (e : Option Exponent) × (o ≡ Some e) × (below ≡ below_of e)
    × (digits ≡ exponent_digits e)

-- the parts with that exponent
abbrev pub with_exponent : Sign → List ℕ → Option (List ℕ) → Option (Option Exponent)
    → Option NumberText
with_exponent sign whole fraction None = None
with_exponent sign whole fraction (Some e) = Some
    (record { sign = sign; whole = whole; fraction = fraction; exponent = e })

-- behind the sign
abbrev pub reading_behind : Sign → List ℕ → Option NumberText
reading_behind sign bs =
    let whole = front_digits bs in
    let rest = behind_digits bs in
    if length whole + length (fraction_digits (fraction_of rest)) == 0 then None
    else with_exponent sign whole (fraction_of rest) (exponent_of (behind_fraction rest))

-- the parts of a number text, where the text is one
unfoldable pub reading : List ℕ → Option NumberText
reading text = reading_behind (sign_of text) (behind_sign text)

-- an exponent past which every number is too large or too small
abbrev pub capped : List ℕ → ℕ
capped digits = min (digits_value 10 digits) (10 ^ 36)
