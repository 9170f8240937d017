-- The texts of iterators: what a text stands for, by its parts, and that the text of an iterator is read as the iterator.
use Rattle.std.proofs.Common.{◌≡◌, ◌≤◌, ◌<◌, refl, sym, ap, ◌∙◌, ℕ, zero, suc, ◌+◌, ◌-◌, ◌^◌, ◌&&◌, nat_le, Bool, true, false, cond, List, [], ◌∷◌, ◌++◌, length, take, drop, get_or, replicate, Option, Some, None, option_map, bytes_eq, decimal, arith, length-append, length-drop, Result, Ok, Err}
use Rattle.std.proofs.Math.Seq.{drop-append_seam, drop-cons, take-append_seam}
use Rattle.std.proofs.lemmas.Bool.{le-leb, leb-true}
use Rattle.std.proofs.lemmas.Fmt.{decimal_is_IsNumeral, length-decimal-le}
use Rattle.std.proofs.lemmas.List.{length-replicate}
use Rattle.std.proofs.lemmas.Slice.Eq.{bytes_eq-Decides}
use Rattle.std.proofs.lemmas.Str.Parse.{numerals_by_value, parse_digits, tells_all_ascii_digits}
use Rattle.std.proofs.lemmas.Option.{same_Some}
use Rattle.std.specs.Char.{is_ascii_digit}
use Rattle.std.specs.List.{list_all}
use Rattle.std.specs.Result.{OkIff, result_ok}
use Rattle.std.specs.Str.{all_ascii_digits, IsCharBoundary}
use Rattle.std.specs.Str.Parse.{AllDigits, ParsesUnsigned, digits_value}
use Rattle.alt_base.proofs.Numbers.{digits_value-zeros}
use Rattle.alt_machine.specs.Streams.{Iterator, before_number, iterator_of, iterator_text, number_within}
use Rattle.alt_schema.specs.Json.{label}

-- ---- the number

-- it is there where the text is of digits, and its value small enough
pub within_is : (largest : ℕ) (digits : List ℕ) → all_ascii_digits digits ≡ true
    → digits_value 10 digits ≤ largest
    → number_within largest digits ≡ Some (digits_value 10 digits)
within_is largest digits all small =
    (λ i. cond (all i && le-leb (digits_value 10 digits) largest small i)
    (Some (digits_value 10 digits)) None)

-- what isn't digits is no number
pub within_none : (largest : ℕ) (digits : List ℕ) → all_ascii_digits digits ≡ false
    → number_within largest digits ≡ None
within_none largest digits other =
    ap (λ b. cond (b && nat_le (digits_value 10 digits) largest)
    (Some (digits_value 10 digits)) None)
    other

-- digits that are above the largest number are none
pub within_above : (largest : ℕ) (digits : List ℕ) → all_ascii_digits digits ≡ true
    → largest < digits_value 10 digits → number_within largest digits ≡ None
within_above largest digits all large =
    (λ i. cond (all i && is_above i) (Some (digits_value 10 digits)) None)
  where
    is_above : nat_le (digits_value 10 digits) largest ≡ false
    is_above = by (nat_le (digits_value 10 digits) largest) refl
      where
        by : (b : Bool) → nat_le (digits_value 10 digits) largest ≡ b
            → nat_le (digits_value 10 digits) largest ≡ false
        by true e = absurd (omega (arith, leb-true (digits_value 10 digits) largest e, large))
        by false e = e

-- what isn't up to a number is above it
above : (m n : ℕ) → nat_le n m ≡ false → m < n
above m n e = grind arith

-- what is parsed is the value
module _ {E : Type 0} (digits : List ℕ) (r : Result ℕ E) (all : all_ascii_digits digits ≡ true)
    (some : 0 < length digits) (parses : ParsesUnsigned 64 10 digits r) where
  abbrev value : ℕ
  value = digits_value 10 digits

  abbrev Parses : Result ℕ E → Type 0
  Parses q = OkIff q ((0 < length digits) × (value < 2 ^ 64)) value

  parsed : Parses r
  parsed = parse_digits (numerals_by_value (λ ds. all_ascii_digits ds ≡ true)
      tells_all_ascii_digits) 64 digits r parses all

  -- a number that was parsed is the value
  is_value : (q : Result ℕ E) (n : ℕ) → Parses q → result_ok q ≡ Some n → n ≡ value
  is_value (Ok x) n h e = sym (same_Some x n e) ∙ h.1
  is_value (Err f) n h e = absurd (let k : ⊥ = cc in k)

  -- and where none was, it is too large
  is_above : (q : Result ℕ E) → Parses q → result_ok q ≡ None → 2 ^ 62 < value
  is_above (Ok x) h e = absurd (let k : ⊥ = cc in k)
  is_above (Err f) fails e = by (nat_le value (2 ^ 62)) refl
    where
      by : (b : Bool) → nat_le value (2 ^ 62) ≡ b → 2 ^ 62 < value
      by true le = absurd (fails (some, omega (arith, leb-true value (2 ^ 62) le)))
      by false not_le = above (2 ^ 62) value not_le

  -- digits that were parsed as a number of at most 2^62 are that number
  pub parsed_small : (n : ℕ) → result_ok r ≡ Some n → n ≤ 2 ^ 62
      → number_within (2 ^ 62) digits ≡ Some n
  parsed_small n is small =
      let same : n ≡ value = is_value r n parsed is in
      within_is (2 ^ 62) digits all (omega (arith, small, same)) ∙ ap Some (sym same)

  -- those of a larger one are none
  pub parsed_large : (n : ℕ) → result_ok r ≡ Some n → 2 ^ 62 < n
      → number_within (2 ^ 62) digits ≡ None
  parsed_large n is large =
      within_above (2 ^ 62) digits all (omega (arith, large, is_value r n parsed is))

  -- nor are those that were parsed as none
  pub parsed_none : result_ok r ≡ None → number_within (2 ^ 62) digits ≡ None
  parsed_none is = within_above (2 ^ 62) digits all (is_above r parsed is)

-- digits, told one by one
pub each_digit : (digits : List ℕ) → list_all is_ascii_digit digits ≡ all_ascii_digits digits
each_digit [] = refl
each_digit (c ∷ cs) = ap (λ b. is_ascii_digit c && b) (each_digit cs)

-- ---- what a text stands for

module _ (text : List ℕ) where
  abbrev at : ℕ
  at = before_number text

  -- what stands before the number
  abbrev arn : List ℕ
  arn = take at text

  abbrev standing : Option ℕ → Option Iterator
  standing = option_map (λ n. record { arn = arn; from = n })

  abbrev by_tests : Bool → Bool → Option Iterator
  by_tests a b = cond (a && b) (standing (number_within (2 ^ 62) (drop (at + 1) text))) None

  abbrev long : Bool
  long = nat_le 22 (length text)

  abbrev barred : Bool
  barred = bytes_eq (take 1 (drop at text)) (124 ∷ [])

  -- a text of fewer than 22 bytes is no iterator
  pub iterator_short : length text < 22 → iterator_of text ≡ None
  iterator_short h = by long refl
    where
      by : (b : Bool) → long ≡ b → by_tests long barred ≡ None
      by true e = absurd (omega (arith, leb-true 22 (length text) e, h))
      by false e = ap (λ b. by_tests b barred) e

  -- without a bar it is none
  none_barred : barred ≡ false → iterator_of text ≡ None
  none_barred e = by long
    where
      by : (b : Bool) → by_tests b barred ≡ None
      by true = ap (by_tests true) e
      by false = refl

  module _ (enough : 22 ≤ length text) where
    -- the byte there, and what follows it
    split_there : drop at text ≡ get_or text at 0 ∷ drop (suc at) text
    split_there = drop-cons text at 0 (omega (arith, enough))

    barred_by : barred ≡ bytes_eq (get_or text at 0 ∷ []) (124 ∷ [])
    barred_by = ap (λ l. bytes_eq (take 1 l) (124 ∷ [])) split_there

    is_bar : barred ≡ true → get_or text at 0 ≡ 124
    is_bar e = ap (λ l. get_or l 0 0)
        ((bytes_eq-Decides (get_or text at 0 ∷ []) (124 ∷ [])).0 (sym barred_by ∙ e))

    -- where another byte stands, it is none
    pub iterator_other : (get_or text at 0 ≡ 124 → ⊥) → iterator_of text ≡ None
    iterator_other other = by barred refl
      where
        by : (b : Bool) → barred ≡ b → iterator_of text ≡ None
        by true e = absurd (other (is_bar e))
        by false e = none_barred e

    -- a bar is a character of its own
    pub iterator_uncut : (IsCharBoundary text at → ⊥) → iterator_of text ≡ None
    iterator_uncut uncut =
        iterator_other (λ e. uncut (omega arith, λ within large. omega (arith, e, large)))

    -- where none stands at the front of what is left, it is none
    pub iterator_unbarred : (tail : List ℕ) → tail ≡ drop at text
        → ((back : List ℕ) → tail ≡ 124 ∷ back → ⊥) → iterator_of text ≡ None
    iterator_unbarred tail is other = iterator_other (λ e. other (drop (suc at) text)
        (is ∙ split_there ∙ ap (λ b. b ∷ drop (suc at) text) e))

    -- Behind a bar stand the digits.
    pub iterator_barred : (tail rest : List ℕ) → tail ≡ drop at text → tail ≡ 124 ∷ rest
        → iterator_of text ≡ standing (number_within (2 ^ 62) rest)
    iterator_barred tail rest is bar =
        (λ i. by_tests (le-leb 22 (length text) enough i) (is_true i))
        ∙ ap (λ l. standing (number_within (2 ^ 62) l)) behind
      where
        there : drop at text ≡ 124 ∷ rest
        there = sym is ∙ bar

        is_true : barred ≡ true
        is_true = ap (λ l. bytes_eq (take 1 l) (124 ∷ [])) there

        behind : drop (at + 1) text ≡ rest
        behind =
            let next : at + 1 ≡ suc at = omega arith in
            ap (λ n. drop n text) next ∙ ap (λ l. drop 1 l) (sym split_there ∙ there)

    pub rest_long : (tail rest : List ℕ) → tail ≡ drop at text → tail ≡ 124 ∷ rest
        → 0 < length rest
    rest_long tail rest is bar = omega (
      arith,
      ap length (sym bar ∙ is ∙ split_there),
      length-drop (suc at) text,
      enough,
    )

-- ---- and back

zeros_digits : (k : ℕ) (ds : List ℕ) → all_ascii_digits ds ≡ true
    → all_ascii_digits (replicate k 48 ++ ds) ≡ true
zeros_digits zero ds h = h
zeros_digits (suc k) ds h = zeros_digits k ds h

module _ (n : ℕ) (small : n ≤ 2 ^ 62) where
  digits_few : length (decimal n) ≤ 21
  digits_few = omega (arith, length-decimal-le 20 n (omega arith) (omega (arith, small)) (omega (arith, small)))

  label_long : length (label n) ≡ 21
  unfolding label
  label_long =
      let zeros : List ℕ = replicate (21 - length (decimal n)) 48 in
      let count : length zeros ≡ 21 - length (decimal n) =
      length-replicate (21 - length (decimal n)) 48 in
      omega (arith, length-append zeros (decimal n), count, digits_few)

  numeral : AllDigits 10 (decimal n) × (digits_value 10 (decimal n) ≡ n)
  numeral = let is = decimal_is_IsNumeral n (omega (arith, small)) in (is.0.1, is.1)

  label_digits : all_ascii_digits (label n) ≡ true
  unfolding label
  label_digits = zeros_digits (21 - length (decimal n)) (decimal n)
      ((numerals_by_value (λ ds. all_ascii_digits ds ≡ true) tells_all_ascii_digits).from
      (decimal n) numeral.0)

  label_value : digits_value 10 (label n) ≡ n
  unfolding label
  label_value = digits_value-zeros (21 - length (decimal n)) (decimal n) ∙ numeral.1

  label_within : number_within (2 ^ 62) (label n) ≡ Some n
  label_within = within_is (2 ^ 62) (label n) label_digits (omega (arith, label_value, small))
      ∙ ap Some label_value

  -- the text of an iterator is read as the iterator
  pub iterator_again : (name text : List ℕ)
      → text ≡ iterator_text (record { arn = name; from = n })
      → iterator_of text ≡ Some (record { arn = name; from = n })
  iterator_again name text is =
      let tail : List ℕ = 124 ∷ label n in
      let count : length text ≡ length name + 22 =
      omega (arith, ap length is, length-append name tail, label_long) in
      let place : before_number text ≡ length name = omega (arith, count) in
      let after : tail ≡ drop (before_number text) text =
      sym ((λ i. drop (place i) (is i)) ∙ drop-append_seam name tail) in
      let before : take (before_number text) text ≡ name =
      (λ i. take (place i) (is i)) ∙ take-append_seam name tail in
      let of : ℕ → Iterator = λ m. record { arn = take (before_number text) text; from = m } in
      let read : iterator_of text ≡ option_map of (number_within (2 ^ 62) (label n)) =
      iterator_barred text (omega (arith, count)) tail (label n) after refl in
      let one : option_map of (number_within (2 ^ 62) (label n)) ≡ Some (of n) =
      ap (option_map of) label_within in
      read ∙ one ∙ ap (λ l. Some (record { arn = l; from = n })) before
