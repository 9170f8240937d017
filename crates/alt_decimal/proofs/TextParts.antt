-- Each number text is cut into its own parts: sign, digits, fraction and exponent.
use Rattle.std.proofs.Common.{◌≡◌, ◌≢◌, ℕ, zero, suc, ◌+◌, ◌<◌, ◌≤◌, Bool, true, false, List, [], ◌∷◌, ◌++◌, length, get_or, take, drop, refl, sym, ap, ◌∙◌, subst, arith, inl, inr, Option, Some, None}
use Rattle.std.proofs.lemmas.Bool.{cases_Bool, cases_lt, ne_eqb, le-ltb}
use Rattle.std.proofs.lemmas.List.{append-nil}
use Rattle.std.specs.Prelude.{◌==◌, nat_lt, if◌then◌else◌}
use Rattle.std.specs.Char.{is_ascii_digit, digit_value}
use Rattle.std.specs.Float.Numeral.{digits_len}
use Rattle.std.specs.Str.Parse.{AllDigits}
use Rattle.std.proofs.lemmas.Str.Parse.{digit_from_value}
use Rattle.alt_decimal.specs.NumberText.{Sign, minus, plus, unsigned, Exponent, NumberText, sign_text, fraction_text, exponent_text, decimal_text, fraction_digits, IsExponent, IsNumberText}
use Rattle.alt_decimal.specs.Reading.{sign_of, behind_sign, front_digits, behind_digits, fraction_of, behind_fraction, exponent_from, exponent_of, reading_behind, reading}

-- ---- digits

-- digits and their bytes
digit_byte : (c : ℕ) → digit_value c < 10 → is_ascii_digit c ≡ true
digit_byte c h = let r = digit_from_value c h in grind (arith, r)

digit_of_byte : (c : ℕ) → is_ascii_digit c ≡ true → digit_value c < 10
digit_of_byte c h = grind arith

-- no digit stands at the front
abbrev NoDigit : List ℕ → Type 0
NoDigit bs = is_ascii_digit (get_or bs 0 0) ≡ false

-- so none is counted there
no_digits : (bs : List ℕ) → NoDigit bs → digits_len bs ≡ 0
no_digits [] h = refl
no_digits (b ∷ bs) h = rw h refl

-- digits up to a byte that is none are all counted
all_digits : (ds rest : List ℕ) → AllDigits 10 ds → NoDigit rest
    → digits_len (ds ++ rest) ≡ length ds
all_digits [] rest all h = no_digits rest h
all_digits (d ∷ ds) rest all h = rw (digit_byte d all.0) (omega (arith, all_digits ds rest all.1 h))

-- the front of a list, and what is behind it
take_front : (ds rest : List ℕ) → take (length ds) (ds ++ rest) ≡ ds
take_front [] rest = refl
take_front (d ∷ ds) rest = ap (λ xs. d ∷ xs) (take_front ds rest)

drop_front : (ds rest : List ℕ) → drop (length ds) (ds ++ rest) ≡ rest
drop_front [] rest = refl
drop_front (d ∷ ds) rest = drop_front ds rest

front_digits-append : (ds rest : List ℕ) → AllDigits 10 ds → NoDigit rest
    → front_digits (ds ++ rest) ≡ ds
front_digits-append ds rest all h = ap (λ n. take n (ds ++ rest)) (all_digits ds rest all h)
    ∙ take_front ds rest

behind_digits-append : (ds rest : List ℕ) → AllDigits 10 ds → NoDigit rest
    → behind_digits (ds ++ rest) ≡ rest
behind_digits-append ds rest all h = ap (λ n. drop n (ds ++ rest)) (all_digits ds rest all h)
    ∙ drop_front ds rest

-- a list is its front and its rest
pub parts_of : (n : ℕ) (bs : List ℕ) → bs ≡ take n bs ++ drop n bs
parts_of zero bs = refl
parts_of (suc n) [] = refl
parts_of (suc n) (b ∷ bs) = ap (λ xs. b ∷ xs) (parts_of n bs)

pub AllDigits-take : (n : ℕ) (bs : List ℕ) → n ≤ digits_len bs → AllDigits 10 (take n bs)
AllDigits-take zero bs h = tt
AllDigits-take (suc n) [] h = tt
AllDigits-take (suc n) (b ∷ bs) h = elim (cases_Bool (is_ascii_digit b)) [
  | inl is ↦ (digit_of_byte b is, AllDigits-take n bs (omega (arith, rw is at h)))
  | inr isnt ↦ absurd (omega (arith, rw isnt at h))
]

-- what is cut off at the front are digits
pub AllDigits-front_digits : (bs : List ℕ) → AllDigits 10 (front_digits bs)
AllDigits-front_digits bs = AllDigits-take (digits_len bs) bs (omega arith)

-- ---- signs

-- no sign stands at the front
record NoSign (bs : List ℕ) : Type 0 where
  no_minus : get_or bs 0 0 ≢ 45
  no_plus : get_or bs 0 0 ≢ 43

sign_of-append : (s : Sign) (rest : List ℕ) → NoSign rest → sign_of (sign_text s ++ rest) ≡ s
sign_of-append minus rest h = refl
sign_of-append plus rest h = refl
sign_of-append unsigned [] h = refl
sign_of-append unsigned (b ∷ bs) h = rw (ne_eqb b 45 h.no_minus, ne_eqb b 43 h.no_plus) refl

behind_sign-append : (s : Sign) (rest : List ℕ) → NoSign rest
    → behind_sign (sign_text s ++ rest) ≡ rest
behind_sign-append minus rest h = refl
behind_sign-append plus rest h = refl
behind_sign-append unsigned [] h = refl
behind_sign-append unsigned (b ∷ bs) h = rw (ne_eqb b 45 h.no_minus, ne_eqb b 43 h.no_plus) refl

-- a digit is no sign
NoSign-digit : (d : ℕ) (ds : List ℕ) → digit_value d < 10 → NoSign (d ∷ ds)
NoSign-digit d ds h = let r = digit_from_value d h in
    record { no_minus = λ e. omega (arith, r, e); no_plus = λ e. omega (arith, r, e) }

-- ---- the fraction and the exponent

NoDigit-exponent : (e : Option Exponent) → NoDigit (exponent_text e)
NoDigit-exponent None = refl
NoDigit-exponent (Some e) = elim (cases_Bool e.upper)
    [ inl up ↦ rw up refl | inr low ↦ rw low refl ]

NoDigit-fraction : (f : Option (List ℕ)) (e : Option Exponent)
    → NoDigit (fraction_text f ++ exponent_text e)
NoDigit-fraction None e = NoDigit-exponent e
NoDigit-fraction (Some ds) e = refl

fraction_of-exponent : (e : Option Exponent) → fraction_of (exponent_text e) ≡ None
fraction_of-exponent None = refl
fraction_of-exponent (Some e) = elim (cases_Bool e.upper)
    [ inl up ↦ rw up refl | inr low ↦ rw low refl ]

behind_fraction-exponent : (e : Option Exponent)
    → behind_fraction (exponent_text e) ≡ exponent_text e
behind_fraction-exponent None = refl
behind_fraction-exponent (Some e) = elim (cases_Bool e.upper)
    [ inl up ↦ rw up refl | inr low ↦ rw low refl ]

fraction_of-text : (f : Option (List ℕ)) (e : Option Exponent) → AllDigits 10 (fraction_digits f)
    → fraction_of (fraction_text f ++ exponent_text e) ≡ f
fraction_of-text None e all = fraction_of-exponent e
fraction_of-text (Some ds) e all = ap Some (front_digits-append ds (exponent_text e) all
    (NoDigit-exponent e))

behind_fraction-text : (f : Option (List ℕ)) (e : Option Exponent)
    → AllDigits 10 (fraction_digits f)
    → behind_fraction (fraction_text f ++ exponent_text e) ≡ exponent_text e
behind_fraction-text None e all = behind_fraction-exponent e
behind_fraction-text (Some ds) e all = behind_digits-append ds (exponent_text e) all
    (NoDigit-exponent e)

exponent_from-digits : (upper : Bool) (s : Sign) (ds : List ℕ) → 0 < length ds → AllDigits 10 ds
    → exponent_from upper s ds ≡ Some (Some (record { upper = upper; sign = s; digits = ds }))
exponent_from-digits upper s ds some all =
    let len : digits_len ds ≡ length ds = ap digits_len (sym (append-nil ds))
    ∙ all_digits ds [] all refl in
    let first : (digits_len ds == 0) ≡ false = ne_eqb _ 0 (λ z. omega (arith, len, z)) in
    let whole : nat_lt (digits_len ds) (length ds) ≡ false = le-ltb _ _ (omega (arith, len)) in
    rw (first, whole) refl

NoSign-digits : (ds rest : List ℕ) → 0 < length ds → AllDigits 10 ds → NoSign (ds ++ rest)
NoSign-digits [] rest some all = absurd (omega arith)
NoSign-digits (d ∷ ds) rest some all = NoSign-digit d (ds ++ rest) all.0

exponent_of-behind : (e : Exponent) → IsExponent (Some e)
    → exponent_from e.upper (sign_of (sign_text e.sign ++ e.digits))
    (behind_sign (sign_text e.sign ++ e.digits)) ≡ Some (Some e)
exponent_of-behind e h =
    let none : NoSign e.digits = subst NoSign (append-nil e.digits)
    (NoSign-digits e.digits [] h.0 h.1) in
    rw (sign_of-append e.sign e.digits none, behind_sign-append e.sign e.digits none)
    (exponent_from-digits e.upper e.sign e.digits h.0 h.1)

exponent_of-case : (upper : Bool) (ds : List ℕ)
    → exponent_of ((if upper then 69 else 101) ∷ ds)
    ≡ exponent_from upper (sign_of ds) (behind_sign ds)
exponent_of-case true ds = refl
exponent_of-case false ds = refl

exponent_of-text : (e : Option Exponent) → IsExponent e → exponent_of (exponent_text e) ≡ Some e
exponent_of-text None h = refl
exponent_of-text (Some e) h = exponent_of-case e.upper (sign_text e.sign ++ e.digits)
    ∙ exponent_of-behind e h

-- ---- each number text is cut into its parts

module _ (bs : List ℕ) where
  reading_some : (s : Sign) (e : Option Exponent)
      → 0 < length (front_digits bs) + length (fraction_digits (fraction_of (behind_digits bs)))
      → exponent_of (behind_fraction (behind_digits bs)) ≡ Some e
      → reading_behind s bs ≡ Some (record {
        sign = s;
        whole = front_digits bs;
        fraction =
            fraction_of (behind_digits bs);
        exponent = e;
      })
  reading_some s e some is =
      let digit : (length (front_digits bs) + length
      (fraction_digits (fraction_of (behind_digits bs))) == 0) ≡ false =
      ne_eqb _ 0 (λ z. omega (arith, some, z)) in
      rw (digit, is) refl

NoSign-point : (w : List ℕ) (f : Option (List ℕ)) (rest : List ℕ) → length w ≡ 0
    → 0 < length w + length (fraction_digits f) → NoSign (w ++ (fraction_text f ++ rest))
NoSign-point [] None rest z some = absurd (omega arith)
NoSign-point [] (Some ds) rest z some = record {
  no_minus = λ e. omega (arith, e);
  no_plus =
      λ e. omega (arith, e);
}
NoSign-point (d ∷ w) f rest z some = absurd (omega arith)

NoSign-text : (t : NumberText) → IsNumberText t
    → NoSign (t.whole ++ (fraction_text t.fraction ++ exponent_text t.exponent))
NoSign-text t h = elim (cases_lt 0 (length t.whole)) [
  | inl some ↦ NoSign-digits t.whole _ some h.whole
  | inr none ↦ NoSign-point t.whole t.fraction (exponent_text t.exponent) (omega arith) h.digit
]

-- a number text is cut into its parts
pub reading-text_of : (t : NumberText) → IsNumberText t → reading (decimal_text t) ≡ Some t
unfolding reading
reading-text_of t h =
    let tail = fraction_text t.fraction ++ exponent_text t.exponent in
    let none = NoDigit-fraction t.fraction t.exponent in
    let front : front_digits (t.whole ++ tail) ≡ t.whole =
    front_digits-append t.whole tail h.whole none in
    let behind : behind_digits (t.whole ++ tail) ≡ tail =
    behind_digits-append t.whole tail h.whole none in
    let fraction : fraction_of (behind_digits (t.whole ++ tail)) ≡ t.fraction =
    ap fraction_of behind ∙ fraction_of-text t.fraction t.exponent h.fraction in
    let exponent : exponent_of (behind_fraction (behind_digits (t.whole ++ tail)))
    ≡ Some t.exponent =
    ap (λ bs. exponent_of (behind_fraction bs)) behind
    ∙ ap exponent_of (behind_fraction-text t.fraction t.exponent h.fraction)
    ∙ exponent_of-text t.exponent h.exponent in
    rw (
      sign_of-append t.sign (t.whole ++ tail) (NoSign-text t h),
      behind_sign-append t.sign (t.whole ++ tail) (NoSign-text t h),
    )
    (reading_some (t.whole ++ tail) t.sign t.exponent (rw (front, fraction) h.digit) exponent
    ∙ rw (front, fraction) refl)
