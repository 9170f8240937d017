-- An exponent behind its letter: one digit or more, and nothing else.
use Rattle.std.proofs.Common.{◌≡◌, ℕ, ◌<◌, Bool, false, List, length, refl, arith, Some, length-take, length-drop}
use Rattle.std.proofs.lemmas.Bool.{ne_eqb, le-ltb}
use Rattle.std.specs.Float.Numeral.{digits_len}
use Rattle.std.specs.Prelude.{◌==◌, nat_lt}
use Rattle.alt_decimal.specs.NumberText.{Sign}
use Rattle.alt_decimal.specs.Reading.{front_digits, behind_digits, exponent_from}

-- digits to the end are an exponent
pub exponent_some : (upper : Bool) (sign : Sign) (bs : List ℕ) → 0 < length (front_digits bs)
    → length (behind_digits bs) ≡ 0
    → exponent_from upper sign bs ≡ Some (Some (record { upper = upper; sign = sign; digits = bs }))
exponent_some upper sign bs some end =
    let first : (digits_len bs == 0) ≡ false =
    ne_eqb (digits_len bs) 0 (λ z. omega (arith, length-take (digits_len bs) bs)) in
    let all : nat_lt (digits_len bs) (length bs) ≡ false =
    le-ltb _ _ (omega (arith, length-drop (digits_len bs) bs)) in
    rw (first, all) refl
