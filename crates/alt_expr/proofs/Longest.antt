-- One look finds the longest token.
use Rattle.std.proofs.Common.{◌≡◌, refl, subst, ◌∙◌, ℕ, zero, suc, ◌<◌, ◌≤◌, min, Bool, true, false, ◌&&◌, ◌==◌, nat_le, if◌then◌else◌, ◌⊎◌, inl, inr, List, [], ◌∷◌, length, take, Option, Some, None, arith, MatchOption}
use Rattle.std.proofs.lemmas.Bool.{cases_lt, and_right, cases_Bool}
use Rattle.std.proofs.lemmas.List.{length-take-le}
use Rattle.std.proofs.Common.{length-drop}
use Rattle.std.specs.Prelude.{⊤}
use Rattle.std.specs.List.{list_all, prefix_len}
use Rattle.std.specs.Char.{is_ascii_digit, is_ascii_alphabetic}
use Rattle.std.proofs.lemmas.Bool.Decides.{nat_tests}
use Rattle.alt_expr.specs.Tokens.{index, mark}
use Rattle.alt_expr.specs.declared.token.Mark.{Mark}
use Rattle.alt_expr.specs.Spelling.{is_inner, is_blank, mark_of_byte, two_byte_mark, word_tok, number_of_digits, spelled_token, spelled_mark, is_some_inner, TokenStands, NoneStands, skip}
use Rattle.alt_expr.specs.declared.lexer.Kind.{Kind}
use Rattle.alt_expr.specs.declared.lexer.Kind.TheVariants as k
use Rattle.alt_expr.specs.Look.{kind_tok, found, found_signed, found_single, found_mark, LooksFit}

pub told : {A : Type 0} (o : Option A) → ((x : A) × (o ≡ Some x)) ⊎ (o ≡ None)
told None = inr refl
told (Some x) = inl (x, refl)

-- the front that passes, and no longer one
all_within : (p : ℕ → Bool) (bs : List ℕ) (n : ℕ) → n ≤ prefix_len p bs
    → list_all p (take n bs) ≡ true
all_within p bs zero h = refl
all_within p [] (suc n) h = refl
all_within p (b ∷ bs) (suc n) h = elim (cases_Bool (p b)) [
  | inl yes_b ↦ rw yes_b (all_within p bs n (let g = rw yes_b at h in omega (arith, g)))
  | inr no_b ↦ absurd (let g = rw no_b at h in omega (arith, g))
]

not_beyond : (p : ℕ → Bool) (bs : List ℕ) (n : ℕ) → prefix_len p bs < n → n ≤ length bs
    → list_all p (take n bs) ≡ false
not_beyond p bs zero h w = absurd (omega arith)
not_beyond p [] (suc n) h w = absurd (omega (arith, w))
not_beyond p (b ∷ bs) (suc n) h w = elim (cases_Bool (p b)) [
  | inl yes_b ↦
      rw yes_b (not_beyond p bs n (let g = rw yes_b at h in omega (arith, g)) (omega (arith, w)))
  | inr no_b ↦ rw no_b refl
]

-- the front of bytes that pass a test is no longer than they
pub prefix_fits : (p : ℕ → Bool) (bs : List ℕ) → prefix_len p bs ≤ length bs
prefix_fits p [] = omega arith
prefix_fits p (b ∷ bs) = elim (cases_Bool (p b)) [
  | inl yes_b ↦ rw yes_b (omega (arith, prefix_fits p bs))
  | inr no_b ↦ rw no_b (omega arith)
]

-- what a scan's answer has to be
abbrev pub Holds : List ℕ → Option (Kind × ℕ) → Type 0
Holds text answer =
    MatchOption answer (NoneStands text) (λ p. TokenStands text p.1 (kind_tok p.0 (take p.1 text)))

-- a word and its like: a first byte, then the run of what passes
run_spells : (p : ℕ → Bool) (b : ℕ) (bs : List ℕ) → list_all p (take (prefix_len p bs) bs) ≡ true
run_spells p b bs = all_within p bs (prefix_len p bs) (omega arith)

word_longer : (b : ℕ) (bs : List ℕ) → is_ascii_alphabetic b ≡ true → (n : ℕ)
    → suc (prefix_len is_inner bs) < n → n ≤ length (b ∷ bs) → spelled_token (take n (b ∷ bs)) ≡ None
word_longer b bs letter zero more fits = absurd (omega (arith, more))
word_longer b bs letter (suc n) more fits =
    simp (letter, not_beyond is_inner bs n (omega (arith, more)) (omega (arith, fits)))

word_stands : (b : ℕ) (bs : List ℕ) → is_ascii_alphabetic b ≡ true
    → TokenStands (b ∷ bs) (suc (prefix_len is_inner bs))
    (word_tok (take (suc (prefix_len is_inner bs)) (b ∷ bs)))
word_stands b bs letter = record {
  within = omega (arith, prefix_fits is_inner bs);
  spells = simp (letter, run_spells is_inner b bs);
  longest = word_longer b bs letter;
}

inner_false : (xs : List ℕ) → list_all is_inner xs ≡ false → is_some_inner xs ≡ false
inner_false [] h = refl
inner_false (b ∷ bs) h = h

inner_true : (xs : List ℕ) → 0 < length xs → list_all is_inner xs ≡ true → is_some_inner xs ≡ true
inner_true [] some h = absurd (omega (arith, some))
inner_true (b ∷ bs) some h = h

signed_none : (bs : List ℕ) (n : ℕ) → prefix_len is_inner bs ≡ 0 → n ≤ length bs
    → is_some_inner (take n bs) ≡ false
signed_none bs zero e fits = refl
signed_none bs (suc n) e fits =
    inner_false (take (suc n) bs) (not_beyond is_inner bs (suc n) (omega (arith, e)) fits)

signed_some : (bs : List ℕ) → 0 < prefix_len is_inner bs
    → is_some_inner (take (prefix_len is_inner bs) bs) ≡ true
signed_some bs some = inner_true (take (prefix_len is_inner bs) bs)
    (omega (arith, some, length-take-le (prefix_len is_inner bs) bs (prefix_fits is_inner bs)))
    (run_spells is_inner 0 bs)

signed_longer : (bs : List ℕ) (n : ℕ) → prefix_len is_inner bs < n → n ≤ length bs
    → is_some_inner (take n bs) ≡ false
signed_longer bs n more fits = inner_false (take n bs) (not_beyond is_inner bs n more fits)

-- ---- numbers of at most nine digits

some_left : (n : ℕ) → (suc n == 1) ≡ false → 0 < n
some_left n h = grind (arith, nat_tests, h)

digits_spell : (bs : List ℕ)
    → (list_all is_ascii_digit (take (min (prefix_len is_ascii_digit bs) 8) bs)
    && nat_le (length (take (min (prefix_len is_ascii_digit bs) 8) bs)) 8) ≡ true
digits_spell bs =
    let n = min (prefix_len is_ascii_digit bs) 8 in
    rw (all_within is_ascii_digit bs n (omega arith), length-take-le n bs (omega (arith, prefix_fits is_ascii_digit bs))) (grind (arith, nat_tests))

over : (n : ℕ) → 8 < n → nat_le n 8 ≡ false
over n h = grind (arith, nat_tests, h)

digits_longer : (bs : List ℕ) (n : ℕ) → min (prefix_len is_ascii_digit bs) 8 < n → n ≤ length bs
    → (list_all is_ascii_digit (take n bs) && nat_le (length (take n bs)) 8) ≡ false
digits_longer bs n more fits = elim (cases_lt 8 n) [
  | inl long ↦ and_right (list_all is_ascii_digit (take n bs)) (nat_le (length (take n bs)) 8)
      (rw (length-take-le n bs fits) (over n long))
  | inr short ↦ rw (not_beyond is_ascii_digit bs n (omega (arith, more, short)) fits) refl
]

-- ---- marks

-- # words and : words
module _ (b : ℕ) (kind : Kind) (spell : (cs : List ℕ)
    → spelled_token (b ∷ cs) ≡ (if is_some_inner cs then Some (kind_tok kind (b ∷ cs)) else None)) where
  sign_longer : (bs : List ℕ) (n : ℕ) → suc (prefix_len is_inner bs) < n → n ≤ length (b ∷ bs)
      → spelled_token (take n (b ∷ bs)) ≡ None
  sign_longer bs zero more fits = absurd (omega (arith, more))
  sign_longer bs (suc n) more fits = spell (take n bs)
      ∙ rw (signed_longer bs n (omega (arith, more)) (omega (arith, fits))) refl

  sign_none : (bs : List ℕ) → prefix_len is_inner bs ≡ 0 → NoneStands (b ∷ bs)
  sign_none bs e zero fits = refl
  sign_none bs e (suc n) fits = spell (take n bs)
      ∙ rw (signed_none bs n e (omega (arith, fits))) refl

  sign_holds : (bs : List ℕ) → Holds (b ∷ bs) (found_signed kind (suc (prefix_len is_inner bs)))
  sign_holds bs = elim (cases_Bool (suc (prefix_len is_inner bs) == 1)) [
    | inl only ↦
        rw only (sign_none bs (let e : suc (prefix_len is_inner bs)
        ≡ 1 = grind (arith, nat_tests, only) in omega (arith, e)))
    | inr more ↦ rw more (record {
      within = omega (arith, prefix_fits is_inner bs);
      spells = spell (take (prefix_len is_inner bs) bs)
          ∙ rw (signed_some bs (some_left _ more)) refl;
      longest = sign_longer bs;
    })
  ]

-- numbers
module _ (b : ℕ) (not_letter : is_ascii_alphabetic b ≡ false) (no_hash : (b == 35) ≡ false)
    (no_colon : (b == 58) ≡ false) (digit : is_ascii_digit b ≡ true) where
  number_spelled : (cs : List ℕ) → spelled_token (b ∷ cs)
      ≡ (if list_all is_ascii_digit cs && nat_le (length cs) 8
      then Some (index (number_of_digits (b ∷ cs))) else None)
  number_spelled cs = simp (not_letter, no_hash, no_colon, digit)

  number_longer : (bs : List ℕ) (n : ℕ) → suc (min (prefix_len is_ascii_digit bs) 8) < n
      → n ≤ length (b ∷ bs) → spelled_token (take n (b ∷ bs)) ≡ None
  number_longer bs zero more fits = absurd (omega (arith, more))
  number_longer bs (suc n) more fits = number_spelled (take n bs)
      ∙ rw (digits_longer bs n (omega (arith, more)) (omega (arith, fits))) refl

  number_stands : (bs : List ℕ) → TokenStands (b ∷ bs) (suc (min (prefix_len is_ascii_digit bs) 8))
      (index (number_of_digits (take (suc (min (prefix_len is_ascii_digit bs) 8)) (b ∷ bs))))
  number_stands bs = record {
    within = omega (arith, prefix_fits is_ascii_digit bs);
    spells = number_spelled (take (min (prefix_len is_ascii_digit bs) 8) bs)
        ∙ rw (digits_spell bs) refl;
    longest = number_longer bs;
  }

module _ (b : ℕ) (not_letter : is_ascii_alphabetic b ≡ false) where
  mark_spelled : (bs : List ℕ) → (b == 35) ≡ false → (b == 58) ≡ false → is_ascii_digit b ≡ false
      → spelled_token (b ∷ bs) ≡ spelled_mark b bs
  mark_spelled bs no_hash no_colon no_digit = simp (not_letter, no_hash, no_colon, no_digit)

  module _ (no_hash : (b == 35) ≡ false) (no_colon : (b == 58) ≡ false)
      (no_digit : is_ascii_digit b ≡ false) where
    pair_longer : (c : ℕ) (bs : List ℕ) (n : ℕ) → 2 < n → n ≤ length (b ∷ c ∷ bs)
        → spelled_token (take n (b ∷ c ∷ bs)) ≡ None
    pair_longer c bs zero more fits = absurd (omega (arith, more))
    pair_longer c bs (suc zero) more fits = absurd (omega (arith, more))
    pair_longer c bs (suc (suc zero)) more fits = absurd (omega (arith, more))
    pair_longer c [] (suc (suc (suc n))) more fits = absurd (omega (arith, fits))
    pair_longer c (d ∷ bs) (suc (suc (suc n))) more fits =
        mark_spelled (c ∷ d ∷ take n bs) no_hash no_colon no_digit

    mark_longer : (bs : List ℕ) (n : ℕ)
        → ((c : ℕ) → (cs : List ℕ) → bs ≡ c ∷ cs → two_byte_mark b c ≡ None) → 1 < n → n ≤ length (b ∷ bs)
        → spelled_token (take n (b ∷ bs)) ≡ None
    mark_longer bs zero alone more fits = absurd (omega (arith, more))
    mark_longer bs (suc zero) alone more fits = absurd (omega (arith, more))
    mark_longer [] (suc (suc n)) alone more fits = absurd (omega (arith, fits))
    mark_longer (c ∷ bs) (suc (suc zero)) alone more fits =
        mark_spelled (c ∷ []) no_hash no_colon no_digit ∙ rw (alone c bs refl) refl
    mark_longer (c ∷ bs) (suc (suc (suc n))) alone more fits =
        pair_longer c bs (suc (suc (suc n))) (omega arith) fits

    one_mark : (bs : List ℕ) (m : Mark)
        → ((c : ℕ) → (cs : List ℕ) → bs ≡ c ∷ cs → two_byte_mark b c ≡ None) → mark_of_byte b ≡ Some m
        → TokenStands (b ∷ bs) 1 (mark m)
    one_mark bs m alone is = record { within = omega arith; spells = mark_spelled [] no_hash no_colon no_digit ∙ rw is refl; longest = λ n. mark_longer bs n alone }

    no_mark : (bs : List ℕ) → ((c : ℕ) → (cs : List ℕ) → bs ≡ c ∷ cs → two_byte_mark b c ≡ None)
        → mark_of_byte b ≡ None → NoneStands (b ∷ bs)
    no_mark bs alone none zero fits = refl
    no_mark bs alone none (suc zero) fits = mark_spelled [] no_hash no_colon no_digit ∙ rw none refl
    no_mark bs alone none (suc (suc n)) fits = mark_longer bs (suc (suc n)) alone (omega arith) fits

    single_holds : (bs : List ℕ) → ((c : ℕ) → (cs : List ℕ) → bs ≡ c ∷ cs → two_byte_mark b c ≡ None)
        → Holds (b ∷ bs) (found_single b)
    single_holds bs alone = elim (told (mark_of_byte b)) [ inl some ↦ rw some.1 (one_mark bs some.0 alone some.1) | inr none ↦ rw none (no_mark bs alone none) ]

    mark_holds : (bs : List ℕ) → Holds (b ∷ bs) (found_mark b bs)
    mark_holds [] =
        let alone = λ (c : ℕ) (cs : List ℕ) (e : [] ≡ c ∷ cs). let f : two_byte_mark b c
        ≡ None = cc in f in
        single_holds [] alone
    mark_holds (c ∷ bs) = elim (told (two_byte_mark b c)) [
      | inl pair ↦ rw pair.1 (record {
        within = omega arith;
        spells = mark_spelled (c ∷ []) no_hash no_colon no_digit ∙ rw pair.1 refl;
        longest = pair_longer c bs;
      })
      | inr single ↦
          let alone = λ (d : ℕ) (cs : List ℕ) (e : c ∷ bs ≡ d ∷ cs). let f : c ≡ d = cc in
          subst (λ x. two_byte_mark b x ≡ None) f single in
          rw single (single_holds (c ∷ bs) alone)
    ]

nothing : NoneStands []
nothing zero fits = refl
nothing (suc n) fits = refl

-- what is found of a text is its longest token
pub scan_holds : (text : List ℕ) → Holds text (found text)
scan_holds [] = nothing
scan_holds (b ∷ bs) = elim (cases_Bool (is_ascii_alphabetic b)) [
  | inl letter ↦ rw letter (word_stands b bs letter)
  | inr not_letter ↦ elim (cases_Bool (b == 35)) [
    | inl sign ↦ rw (not_letter, sign) (sign_holds b k.Hash (λ cs. simp (not_letter, sign)) bs)
    | inr no_hash ↦ elim (cases_Bool (b == 58)) [
      | inl sign ↦ rw (not_letter, no_hash, sign)
          (sign_holds b k.Colon (λ cs. simp (not_letter, no_hash, sign)) bs)
      | inr no_colon ↦ elim (cases_Bool (is_ascii_digit b)) [
        | inl digit ↦ rw (not_letter, no_hash, no_colon, digit)
            (number_stands b not_letter no_hash no_colon digit bs)
        | inr no_digit ↦ rw (not_letter, no_hash, no_colon, no_digit)
            (mark_holds b not_letter no_hash no_colon no_digit bs)
      ]
    ]
  ]
]

-- ---- an index has at most nine digits

-- what was found is within the text
abbrev pub Fits9 : List ℕ → Option (Kind × ℕ) → Type 0
Fits9 text answer = MatchOption answer ⊤ (λ p. LooksFit p.0 (take p.1 text))

-- digits behind a first one fit an index's look, up to nine of them
digits_fit : (b : ℕ) (bs : List ℕ) → is_ascii_digit b ≡ true
    → LooksFit k.Index (take (suc (min (prefix_len is_ascii_digit bs) 8)) (b ∷ bs))
digits_fit b bs digit =
    let n = min (prefix_len is_ascii_digit bs) 8 in
    (rw digit (all_within is_ascii_digit bs n (omega arith)), omega (arith, length-take-le n bs (omega (arith, prefix_fits is_ascii_digit bs))))

sign_fit : (text : List ℕ) (kind : Kind) (n : ℕ) → ((s : List ℕ) → LooksFit kind s)
    → Fits9 text (found_signed kind n)
sign_fit text kind n fit =
    elim (cases_Bool (n == 1)) [ inl only ↦ rw only tt | inr more ↦ rw more (fit (take n text)) ]

single_fit : (text : List ℕ) (b : ℕ) → Fits9 text (found_single b)
single_fit text b = elim (told (mark_of_byte b)) [ inl some ↦ rw some.1 tt | inr none ↦ rw none tt ]

mark_fit : (text : List ℕ) (b : ℕ) (bs : List ℕ) → Fits9 text (found_mark b bs)
mark_fit text b [] = single_fit text b
mark_fit text b (c ∷ bs) =
    elim (told (two_byte_mark b
    c)) [ inl pair ↦ rw pair.1 tt | inr single ↦ rw single (single_fit text b) ]

found_fit : (text : List ℕ) → Fits9 text (found text)
found_fit [] = tt
found_fit (b ∷ bs) = elim (cases_Bool (is_ascii_alphabetic b)) [
  | inl letter ↦ rw letter tt
  | inr not_letter ↦ elim (cases_Bool (b == 35)) [
    | inl sign ↦ rw (not_letter, sign) (sign_fit (b ∷ bs) k.Hash _ (λ s. tt))
    | inr no_hash ↦ elim (cases_Bool (b == 58)) [
      | inl sign ↦ rw (not_letter, no_hash, sign) (sign_fit (b ∷ bs) k.Colon _ (λ s. tt))
      | inr no_colon ↦ elim (cases_Bool (is_ascii_digit b)) [
        | inl digit ↦ rw (not_letter, no_hash, no_colon, digit) (digits_fit b bs digit)
        | inr no_digit ↦ rw (not_letter, no_hash, no_colon, no_digit) (mark_fit (b ∷ bs) b bs)
      ]
    ]
  ]
]

-- what was found fits the look of its kind
pub fits_nine : (text : List ℕ) (kind : Kind) (n : ℕ) → found text ≡ Some (kind, n)
    → LooksFit kind (take n text)
fits_nine text kind n e = subst (Fits9 text) e (found_fit text)

-- what the answer says
pub stands_of : (text : List ℕ) (kind : Kind) (n : ℕ) → found text ≡ Some (kind, n)
    → TokenStands text n (kind_tok kind (take n text))
stands_of text kind n e = subst (Holds text) e (scan_holds text)

-- where nothing was found no token stands
pub none_of : (text : List ℕ) → found text ≡ None → NoneStands text
none_of text e = subst (Holds text) e (scan_holds text)

-- behind blanks no more is left than there was
pub skip_fits : (text : List ℕ) → length (skip text) ≤ length text
skip_fits text = omega (arith, length-drop (prefix_len is_blank text) text)

-- a text that has a length isn't empty
pub not_empty : (text : List ℕ) → false ≡ (length text == 0) → text ≡ [] → ⊥
not_empty [] f e = cc
not_empty (b ∷ bs) f e = cc
