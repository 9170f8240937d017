-- A number is printed in ASCII.
use Rattle.std.proofs.Common.{ℕ, zero, suc, ◌-◌, ◌/◌, ◌%◌, ◌^◌, ◌<◌, Bool, true, false, List, [], ◌∷◌, ◌++◌, take, arith, IsUtf8, IsAscii}
use Rattle.std.specs.Prelude.{ℤ, nat_abs, ◌==◌, if◌then◌else◌, ⊤}
use Rattle.std.proofs.lemmas.Str.{IsUtf8-from_ascii}
use Rattle.std.proofs.lemmas.Str.Ascii.{IsAscii-nil, IsAscii-cons}
use Rattle.std.specs.Int.{is_negative}
use Rattle.std.specs.Int.Digits.{digits_of}
use Rattle.std.specs.Fmt.{sign_text}
use Rattle.alt_decimal.specs.Digits.{padded, glyphs, width, trailing_zeros}
use Rattle.alt_decimal.specs.Printed.{printed, whole_text, fraction_text}
use Rattle.alt_decimal.proofs.Padded.{digits_of-padded}

-- each is below m
abbrev Below : ℕ → List ℕ → Type 0
Below m [] = ⊤
Below m (b ∷ bs) = (b < m) × Below m bs

Below-append : (m : ℕ) (xs ys : List ℕ) → Below m xs → Below m ys → Below m (xs ++ ys)
Below-append m [] ys h k = k
Below-append m (x ∷ xs) ys h k = (h.0, Below-append m xs ys h.1 k)

Below-take : (m n : ℕ) (xs : List ℕ) → Below m xs → Below m (take n xs)
Below-take m zero [] h = tt
Below-take m zero (x ∷ xs) h = tt
Below-take m (suc n) [] h = tt
Below-take m (suc n) (x ∷ xs) h = (h.0, Below-take m n xs h.1)

Below-if : (m : ℕ) (b : Bool) (xs ys : List ℕ) → Below m xs → Below m ys
    → Below m (if b then xs else ys)
Below-if m true xs ys h k = h
Below-if m false xs ys h k = k

Below-padded : (k n : ℕ) → Below 10 (padded k n)
unfolding padded
Below-padded zero n = tt
Below-padded (suc k) n = Below-append 10 (padded k (n / 10)) (n % 10 ∷ []) (Below-padded k (n / 10))
    (omega arith, tt)

Below-glyphs : (ds : List ℕ) → Below 10 ds → Below 128 (glyphs 48 ds)
unfolding glyphs
Below-glyphs [] h = tt
Below-glyphs (d ∷ ds) h = (omega (arith, h.0), Below-glyphs ds h.1)

-- the parts of a printed number are ASCII
whole_below : (n : ℕ) → Below 128 (whole_text n)
unfolding whole_text
whole_below n =
    Below-if 128 (n == 0) (48 ∷ []) (glyphs 48 (digits_of 10 n)) (omega arith, tt)
    (Below-glyphs (digits_of 10 n) (rw (digits_of-padded n) (Below-padded (width n) n)))

fraction_below : (n : ℕ) → Below 128 (fraction_text n)
unfolding fraction_text
fraction_below n =
    let ds = take (167 - trailing_zeros n) (padded 167 n) in
    Below-if 128 (n == 0) [] (46 ∷ glyphs 48 ds) tt (
      omega arith,
      Below-glyphs ds (Below-take 10 (167 - trailing_zeros n) (padded 167 n)
          (Below-padded 167 n)),
    )

sign_below : (b : Bool) → Below 128 (sign_text b)
sign_below true = (omega arith, tt)
sign_below false = tt

printed_below : (z : ℤ) → Below 128 (printed z)
unfolding printed
printed_below z =
    let whole = nat_abs z / 10 ^ 167 in
    let fraction = nat_abs z % 10 ^ 167 in
    Below-append 128 (sign_text (is_negative z)) (whole_text whole ++ fraction_text fraction)
    (sign_below (is_negative z))
    (Below-append 128 (whole_text whole) (fraction_text fraction) (whole_below whole)
    (fraction_below fraction))

-- bytes below 128 are ASCII
ascii_below : (bs : List ℕ) → Below 128 bs → IsAscii bs
ascii_below [] h = IsAscii-nil
ascii_below (b ∷ bs) h = IsAscii-cons b bs h.0 (ascii_below bs h.1)

-- so a printed number is UTF-8
pub IsUtf8-printed : (z : ℤ) → IsUtf8 (printed z)
IsUtf8-printed z = IsUtf8-from_ascii (printed z) (ascii_below (printed z) (printed_below z))
