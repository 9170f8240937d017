-- A text's number is the one that it reads as.
use Rattle.std.proofs.Common.{◌≡◌, refl, sym, ap, ◌∙◌, ℕ, ◌+◌, true, false, inl, inr, List, length, Option, Some, None, Result, arith}
use Rattle.std.specs.Prelude.{ℤ, ◌==◌}
use Rattle.std.proofs.lemmas.Bool.{cases_Bool, eqb-false}
use Rattle.alt_decimal.specs.declared.fault.NumberFault.{NumberFault}
use Rattle.alt_decimal.specs.NumberText.{Exponent, TextReadsAs, fraction_digits}
use Rattle.alt_decimal.specs.Reading.{reading, behind_sign, front_digits, behind_digits, fraction_of, behind_fraction, exponent_of}
use Rattle.alt_decimal.proofs.Reading.{ReadsAs-none, ReadsAs-parts, parts_with}
use Rattle.alt_codec.specs.Numbers.{number_of, of_text}

-- a text reads as one answer alone
one_answer : (s : List ℕ) (q r : Result ℤ NumberFault) → TextReadsAs s q → TextReadsAs s r → q ≡ r
one_answer s q r a b = elim a.no_number [
  | inl e ↦ elim b.no_number [
    | inl f ↦ e ∙ sym f
    | inr t ↦ a.number t.0 t.1 t.2 ∙ sym (b.number t.0 t.1 t.2)
  ]
  | inr t ↦ a.number t.0 t.1 t.2 ∙ sym (b.number t.0 t.1 t.2)
]

-- how many digits stand before the exponent
abbrev digit_count : List ℕ → ℕ
digit_count s = length (front_digits (behind_sign s)) + length
    (fraction_digits (fraction_of (behind_digits (behind_sign s))))

-- the exponent behind them, if there is one
abbrev exponent : List ℕ → Option (Option Exponent)
exponent s = exponent_of (behind_fraction (behind_digits (behind_sign s)))

-- a text that isn't cut into parts is no number
no_reading : (s : List ℕ) → reading s ≡ None → TextReadsAs s (number_of s)
unfolding number_of
no_reading s none = rw none (ReadsAs-none s none)

-- no part, and parts that fail
none_at_all : (s : List ℕ) → (digit_count s == 0) ≡ true → reading s ≡ None
unfolding reading
none_at_all s e = rw e refl

no_exponent : (s : List ℕ) → (digit_count s == 0) ≡ false → exponent s ≡ None → reading s ≡ None
unfolding reading
no_exponent s e f = rw (e, f) refl

-- the parts, with an exponent or without
parts_read : (s : List ℕ) (e : Option Exponent) → (digit_count s == 0) ≡ false → exponent s ≡ Some e
    → reading s ≡ Some (parts_with s e)
unfolding reading
parts_read s e z f = rw (z, f) refl

parts : (s : List ℕ) (e : Option Exponent) → (digit_count s == 0) ≡ false → exponent s ≡ Some e
    → TextReadsAs s (number_of s)
unfolding number_of
parts s e z f = ReadsAs-parts s e (of_text (reading s)) f
    (omega (arith, eqb-false (digit_count s) 0 z)) (ap of_text (parts_read s e z f))

-- with a digit at least
with_digits : (s : List ℕ) → (digit_count s == 0) ≡ false → TextReadsAs s (number_of s)
with_digits s z = elim (exponent s) as (λ o. exponent s ≡ o → TextReadsAs s (number_of s)) [
  | None ↦ λ f. no_reading s (no_exponent s z f)
  | Some e ↦ λ f. parts s e z f
] refl

-- the number that the cut gives is the one that the grammar gives
pub reads : (s : List ℕ) → TextReadsAs s (number_of s)
reads s = elim (cases_Bool (digit_count s == 0)) [
  | inl e ↦ no_reading s (none_at_all s e)
  | inr e ↦ with_digits s e
]

-- so what a text reads as by the grammar is what the cut gives
pub reads-number_of : (s : List ℕ) (r : Result ℤ NumberFault) → TextReadsAs s r → number_of s ≡ r
reads-number_of s r h = one_answer s (number_of s) r (reads s) h
