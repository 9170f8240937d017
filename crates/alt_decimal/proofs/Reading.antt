-- What `reading` cuts a text into is the number text that it is, and what a text reads as, by the parts that were found.
use Rattle.std.proofs.Common.{◌≡◌, ℕ, ◌+◌, ◌<◌, ◌≤◌, Bool, true, List, [], ◌∷◌, ◌++◌, length, refl, sym, ap, ◌∙◌, subst, arith, inl, inr, Option, Some, None, Err, Result}
use Rattle.std.proofs.lemmas.Bool.{cases_Bool, eqb-true, eqb-false, eq-eqb, ltb-false, or_cases, or_parts}
use Rattle.std.proofs.lemmas.List.Sums.{prefix_len-le-length}
use Rattle.std.specs.Prelude.{ℤ, ◌==◌, ◌||◌, nat_lt, if◌then◌else◌}
use Rattle.std.specs.Char.{is_ascii_digit}
use Rattle.std.specs.Float.Numeral.{digits_len}
use Rattle.std.specs.Str.Parse.{AllDigits}
use Rattle.std.proofs.lemmas.Option.{none-some, same_Some}
use Rattle.alt_decimal.specs.declared.fault.NumberFault.{NumberFault}
use Rattle.alt_decimal.specs.declared.fault.NumberFault.TheVariants.{NotANumber}
use Rattle.std.specs.Str.Parse.{digits_value}
use Rattle.alt_base.proofs.Lists.{take-length}
use Rattle.alt_decimal.specs.Number.{Number, fitted}
use Rattle.alt_decimal.specs.NumberText.{Sign, Exponent, NumberText, sign_text, fraction_text, exponent_text, decimal_text, fraction_digits, IsExponent, IsNumberText, is_minus, denoted_number, TextReadsAs}
use Rattle.alt_decimal.specs.Reading.{ExponentIs, exponent_digits, below_of, sign_of, behind_sign, front_digits, behind_digits, fraction_of, behind_fraction, exponent_from, exponent_of, reading}
use Rattle.alt_decimal.proofs.TextParts.{parts_of, AllDigits-take, AllDigits-front_digits, reading-text_of}

-- ---- the parts make up the text

-- what was cut is the text again, part by part
sign_parts : (bs : List ℕ) → bs ≡ sign_text (sign_of bs) ++ behind_sign bs
sign_parts [] = refl
sign_parts (b ∷ bs) = elim (cases_Bool (b == 45)) [
  | inl e ↦ rw e (ap (λ c. c ∷ bs) (eqb-true b 45 e))
  | inr e ↦ elim (cases_Bool (b == 43)) [
    | inl p ↦ rw (e, p)
        (ap (λ c. c ∷ bs) (eqb-true b 43 p))
    | inr p ↦ rw (e, p) refl
  ]
]

-- the fraction and what is behind it
fraction_parts : (bs : List ℕ) → bs ≡ fraction_text (fraction_of bs) ++ behind_fraction bs
fraction_parts [] = refl
fraction_parts (b ∷ bs) = elim (cases_Bool (b == 46)) [
  | inl e ↦ rw e (ap (λ c. c ∷ bs) (eqb-true b 46 e)
      ∙ ap (λ xs. 46 ∷ xs) (parts_of (digits_len bs) bs))
  | inr e ↦ rw e refl
]

-- a fraction has digits alone
pub AllDigits-fraction_of : (bs : List ℕ) → AllDigits 10 (fraction_digits (fraction_of bs))
AllDigits-fraction_of [] = tt
AllDigits-fraction_of (b ∷ bs) = elim (cases_Bool (b == 46))
    [ inl e ↦ rw e (AllDigits-front_digits bs) | inr e ↦ rw e tt ]

-- digits from end to end
whole_digits : (ds : List ℕ) → length ds ≤ digits_len ds → AllDigits 10 ds
whole_digits ds h = subst (AllDigits 10) (take-length ds) (AllDigits-take (length ds) ds h)

-- an exponent of these digits
record IsExponentOf (upper : Bool) (s : Sign) (ds : List ℕ) (e : Option Exponent) : Type 0 where
  is : Some (record { upper = upper; sign = s; digits = ds }) ≡ e
  some : 0 < length ds
  all : AllDigits 10 ds

-- it was cut off with them
exponent_from_parts : (upper : Bool) (s : Sign) (ds : List ℕ) (e : Option Exponent)
    → exponent_from upper s ds ≡ Some e → IsExponentOf upper s ds e
exponent_from_parts upper s ds e h = elim (cases_Bool
    (digits_len ds == 0 || nat_lt (digits_len ds) (length ds))) [
      | inl bad ↦ absurd (none-some e (rw bad at h))
      | inr good ↦
          let p = or_parts (digits_len ds == 0) (nat_lt (digits_len ds) (length ds)) good in
          let some : digits_len ds ≡ 0 → ⊥ = eqb-false (digits_len ds) 0 p.0 in
          let long : length ds ≤ digits_len ds = ltb-false (digits_len ds) (length ds) p.1 in
          let most : digits_len ds ≤ length ds = prefix_len-le-length is_ascii_digit ds in
          record {
            is = same_Some _ e (rw good at h);
            some = omega (arith, some, most);
            all =
                whole_digits ds long;
          }
    ]

-- the letter of an exponent
letter : (b : ℕ) → (b == 101 || b == 69) ≡ true → b ≡ (if b == 69 then 69 else 101)
letter b h = elim (cases_Bool (b == 69)) [
  | inl e ↦ rw e (eqb-true b 69 e)
  | inr e ↦ elim (or_cases (b == 101) (b == 69) h) [ inl p ↦ rw e (eqb-true b 101 p) | inr p ↦ cc ]
]

-- an exponent that was read is the text, and well formed
record ExponentParts (bs : List ℕ) (e : Option Exponent) : Type 0 where
  text : bs ≡ exponent_text e
  formed : IsExponent e

-- an exponent is its letter, sign and digits
exponent_some_parts : (b : ℕ) (bs : List ℕ) (e : Option Exponent)
    → b ≡ (if b == 69 then 69 else 101)
    → IsExponentOf (b == 69) (sign_of bs) (behind_sign bs) e → ExponentParts (b ∷ bs) e
exponent_some_parts b bs e is p = subst (ExponentParts (b ∷ bs)) p.is (record {
  text = ap (λ c. c ∷ bs) is ∙ ap (λ xs. (if b == 69 then 69 else 101) ∷ xs) (sign_parts bs);
  formed = (p.some, p.all);
})

-- or there is none
exponent_parts : (bs : List ℕ) (e : Option Exponent) → exponent_of bs ≡ Some e → ExponentParts bs e
exponent_parts [] e h = subst (ExponentParts []) (same_Some None e h)
    (record { text = refl; formed = tt })
exponent_parts (b ∷ bs) e h = elim (cases_Bool (b == 101 || b == 69)) [
  | inl is ↦ exponent_some_parts b bs e (letter b is)
      (exponent_from_parts (b == 69) (sign_of bs) (behind_sign bs) e (rw is at h))
  | inr isnt ↦ absurd (none-some e (rw isnt at h))
]

-- an exponent has digits alone
pub AllDigits-exponent : (bs : List ℕ) (e : Option Exponent) → exponent_of bs ≡ Some e
    → AllDigits 10 (exponent_digits e)
AllDigits-exponent bs None h = tt
AllDigits-exponent bs (Some e) h = (exponent_parts bs (Some e) h).formed.1

-- ---- what a text reads as

-- a text that can't be cut is no number
pub ReadsAs-none : (text : List ℕ) → reading text ≡ None → TextReadsAs text (Err NotANumber)
ReadsAs-none text none = record {
  number = λ t h e. absurd (none-some t (sym none ∙ ap reading e ∙ reading-text_of t h));
  no_number = inl refl;
}

-- one that can reads as its parts denote
pub ReadsAs-some : (text : List ℕ) (t : NumberText) (answer : Result ℤ NumberFault) → IsNumberText t
    → text ≡ decimal_text t → answer ≡ fitted (denoted_number t)
    → TextReadsAs text answer
ReadsAs-some text t answer h is e = record {
  number = λ t' h' is'.
      let same : t ≡ t' = same_Some t t' (sym (reading-text_of t h) ∙ ap reading (sym is ∙ is')
      ∙ reading-text_of t' h') in
      e ∙ ap (λ u. fitted (denoted_number u)) same;
  no_number = inr (t, h, is);
}

-- ---- what the reader finds in a text

module _ (text : List ℕ) where
  abbrev rest : List ℕ
  rest = behind_sign text

  abbrev tail : List ℕ
  tail = behind_digits rest

  -- the parts that the reader finds, with this exponent
  abbrev pub parts_with : Option Exponent → NumberText
  parts_with e = record {
    sign = sign_of text;
    whole = front_digits rest;
    fraction =
        fraction_of tail;
    exponent = e;
  }

  -- a text is the text of its parts
  text_parts : (e : Option Exponent) → ExponentParts (behind_fraction tail) e
      → text ≡ decimal_text (parts_with e)
  text_parts e p =
      sign_parts text ∙ ap (λ xs. sign_text (sign_of text) ++ xs) (parts_of (digits_len rest) rest
      ∙ ap (λ xs. front_digits rest ++ xs) (fraction_parts tail
      ∙ ap (λ xs. fraction_text (fraction_of tail) ++ xs) p.text))

  -- no digit before the exponent
  pub ReadsAs-empty : length (front_digits rest) ≡ 0
      → length (fraction_digits (fraction_of tail)) ≡ 0 → TextReadsAs text (Err NotANumber)
  unfolding reading
  ReadsAs-empty no_whole no_fraction =
      let none : (length (front_digits rest) + length (fraction_digits (fraction_of tail)) == 0)
      ≡ true = eq-eqb _ 0 (omega (arith, no_whole, no_fraction)) in
      ReadsAs-none text (rw none refl)

  -- something else than an exponent behind the digits
  pub ReadsAs-broken : exponent_of (behind_fraction tail) ≡ None → TextReadsAs text (Err NotANumber)
  unfolding reading
  ReadsAs-broken broken =
      ReadsAs-none text (elim (cases_Bool (length (front_digits rest) + length
      (fraction_digits (fraction_of tail)) == 0)) [
        | inl e ↦ rw e refl
        | inr e ↦ rw (e, broken) refl
      ])

  -- with a digit and an exponent that is one, the text reads as what its parts stand for
  pub ReadsAs-parts : (e : Option Exponent) (answer : Result ℤ NumberFault)
      → exponent_of (behind_fraction tail) ≡ Some e
      → 0 < length (front_digits rest) + length (fraction_digits (fraction_of tail))
      → answer ≡ fitted (denoted_number (parts_with e)) → TextReadsAs text answer
  ReadsAs-parts e answer is some gives =
      let p = exponent_parts (behind_fraction tail) e is in
      let formed : IsNumberText (parts_with e) = record {
        whole = AllDigits-front_digits rest;
        fraction = AllDigits-fraction_of tail;
        digit = some;
        exponent = p.formed;
      } in
      ReadsAs-some text (parts_with e) answer formed (text_parts e p) gives

-- ---- the same, by what the calls of the reader gave

module _ (text r1 whole r2 fraction r3 : List ℕ) (e1 : r1 ≡ behind_sign text)
    (e2 : whole ≡ front_digits r1) (e3 : r2 ≡ behind_digits r1)
    (e4 : fraction ≡ fraction_digits (fraction_of r2)) (e5 : r3 ≡ behind_fraction r2) where
  whole_is : whole ≡ front_digits (rest text)
  whole_is = e2 ∙ ap front_digits e1

  tail_is : r2 ≡ tail text
  tail_is = e3 ∙ ap behind_digits e1

  fraction_is : fraction ≡ fraction_digits (fraction_of (tail text))
  fraction_is = e4 ∙ ap (λ bs. fraction_digits (fraction_of bs)) tail_is

  end_is : r3 ≡ behind_fraction (tail text)
  end_is = e5 ∙ ap behind_fraction tail_is

  -- the same where the calls found no digit
  pub found_empty : length whole ≡ 0 → length fraction ≡ 0 → TextReadsAs text (Err NotANumber)
  found_empty no_whole no_fraction = ReadsAs-empty text (sym (ap length whole_is) ∙ no_whole)
      (sym (ap length fraction_is) ∙ no_fraction)

  -- the same where they found no exponent behind the digits
  pub found_broken : exponent_of r3 ≡ None → TextReadsAs text (Err NotANumber)
  found_broken broken = ReadsAs-broken text (ap exponent_of (sym end_is) ∙ broken)

  -- the number that they found, with this exponent
  abbrev pub found_number : Option Exponent → Number
  found_number e = record {
    negative = is_minus (sign_of text);
    c = digits_value 10 (whole ++ fraction);
    up = if below_of e then 0 else digits_value 10 (exponent_digits e);
    down = (if below_of e then digits_value 10 (exponent_digits e) else 0) + length fraction;
  }

  -- it is the one that the parts stand for
  same_number : (e : Option Exponent) → found_number e ≡ denoted_number (parts_with text e)
  same_number None = rw (← whole_is, ← fraction_is) refl
  same_number (Some e) = rw (← whole_is, ← fraction_is) refl

  -- a text reads as the number of what the calls found in it
  pub found : (negative below : Bool) (digits : List ℕ) (answer : Result ℤ NumberFault)
      → negative ≡ is_minus (sign_of text)
      → ExponentIs (exponent_of r3) below digits → 0 < length whole + length fraction
      → answer ≡ fitted (record {
        negative = negative;
        c = digits_value 10 (whole ++ fraction);
        up = if below then 0 else digits_value 10 digits;
        down = (if below then digits_value 10 digits else 0) + length fraction;
      })
      → TextReadsAs text answer
  found negative below digits answer sign (e, is, same_below, same_digits) some gives =
      ReadsAs-parts text e answer (ap exponent_of (sym end_is) ∙ is)
      (rw (← whole_is, ← fraction_is) some)
      (gives ∙ rw (sign, same_below, same_digits) refl ∙ ap fitted (same_number e))
