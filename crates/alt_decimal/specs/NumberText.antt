-- What a number text is, and the number that it denotes.
--
-- An optional `+` or `-`; digits with at most one point, at least one digit in all; optionally `e` or `E`, an optional sign
-- and one or more digits. DynamoDB API Reference, "AttributeValue", N: numbers are sent as texts.
use Rattle.std.specs.Prelude.{◌≡◌, ℕ, ◌+◌, ◌<◌, if◌then◌else◌, ◌⊎◌, Bool, true, false, List, [], ◌∷◌, ◌++◌, length, Option, Some, None, ℤ, Result, Err}
use Rattle.std.specs.Str.Parse.{digits_value, AllDigits}
use Rattle.alt_decimal.specs.declared.fault.NumberFault.{NumberFault}
use Rattle.alt_decimal.specs.declared.fault.NumberFault.TheVariants.{NotANumber}
use Rattle.alt_decimal.specs.Number.{Number, fitted}

-- `-`, `+` or nothing
pub data Sign : Type 0 where
  minus : Sign
  plus : Sign
  unsigned : Sign

-- the exponent of a number text: `E-12` or `e5`
pub record Exponent : Type 0 where
  pub upper : Bool
  pub sign : Sign
  pub digits : List ℕ

-- the parts of a number text: `-12.50e+3` has the whole digits `12` and the fraction `50`
pub record NumberText : Type 0 where
  pub sign : Sign
  pub whole : List ℕ
  pub fraction : Option (List ℕ)
  pub exponent : Option Exponent

-- the sign as it is written
abbrev pub sign_text : Sign → List ℕ
sign_text minus = 45 ∷ []
sign_text plus = 43 ∷ []
sign_text unsigned = []

-- a point and the digits behind it
abbrev pub fraction_text : Option (List ℕ) → List ℕ
fraction_text None = []
fraction_text (Some digits) = 46 ∷ digits

-- `e` or `E`, the sign and the digits of an exponent
abbrev pub exponent_text : Option Exponent → List ℕ
exponent_text None = []
exponent_text (Some e) = (if e.upper then 69 else 101) ∷ (sign_text e.sign ++ e.digits)

-- the text of the parts
abbrev pub decimal_text : NumberText → List ℕ
decimal_text t = sign_text t.sign ++ (t.whole ++ (fraction_text t.fraction ++ exponent_text t.exponent))

-- the digits behind the point, if there is one
abbrev pub fraction_digits : Option (List ℕ) → List ℕ
fraction_digits None = []
fraction_digits (Some digits) = digits

-- no exponent, or one with one digit or more and nothing but digits
abbrev pub IsExponent : Option Exponent → Type 0
IsExponent None = Unit {0}
IsExponent (Some e) = (0 < length e.digits) × AllDigits 10 e.digits

-- digits stand where they are due, and one of them at least before the exponent
pub record IsNumberText (t : NumberText) : Type 0 where
  pub whole : AllDigits 10 t.whole
  pub fraction : AllDigits 10 (fraction_digits t.fraction)
  pub digit : 0 < length t.whole + length (fraction_digits t.fraction)
  pub exponent : IsExponent t.exponent

-- whether a sign is a minus
abbrev pub is_minus : Sign → Bool
is_minus minus = true
is_minus plus = false
is_minus unsigned = false

-- by how many tens an exponent multiplies, and by how many it divides
abbrev pub tens_up : Option Exponent → ℕ
tens_up None = 0
tens_up (Some e) = if is_minus e.sign then 0 else digits_value 10 e.digits

-- by how many tens it divides
abbrev pub tens_down : Option Exponent → ℕ
tens_down None = 0
tens_down (Some e) = if is_minus e.sign then digits_value 10 e.digits else 0

-- the number that a number text denotes: its digits as one whole number, moved by the exponent and by the digits of the fraction
abbrev pub denoted_number : NumberText → Number
denoted_number t = record {
  negative = is_minus t.sign;
  c = digits_value 10 (t.whole ++ fraction_digits t.fraction);
  up = tens_up t.exponent;
  down = tens_down t.exponent + length (fraction_digits t.fraction);
}

-- What a text reads as: a number text as the number that it denotes where that fits, and else as that number's fault; any other
-- text is not a number. The answer to a number text is never NotANumber, so the two cases exclude each other.
pub record TextReadsAs (text : List ℕ) (answer : Result ℤ NumberFault) : Type 0 where
  pub number : (t : NumberText) → IsNumberText t → text ≡ decimal_text t → answer ≡ fitted (denoted_number t)
  pub no_number : (answer ≡ Err NotANumber) ⊎ ((t : NumberText) × IsNumberText t
      × (text ≡ decimal_text t))
