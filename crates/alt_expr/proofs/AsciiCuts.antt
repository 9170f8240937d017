-- Where a text may be cut: behind the tokens that one look finds, since their bytes are ASCII.
use Rattle.std.proofs.Common.{◌≡◌, refl, subst, ℕ, zero, suc, ◌<◌, ◌≤◌, min, Bool, true, ◌==◌, inl, inr, List, [], ◌∷◌, length, Option, Some, arith, MatchOption, get_or, add-one}
use Rattle.std.proofs.lemmas.Bool.{cases_Bool}
use Rattle.std.specs.Prelude.{⊤}
use Rattle.std.specs.List.{prefix_len}
use Rattle.std.specs.Str.{IsUtf8, IsCharBoundary}
use Rattle.std.proofs.lemmas.Str.{IsCharBoundary-start, IsCharBoundary-after_ascii}
use Rattle.std.specs.Char.{is_ascii_digit, is_ascii_alphabetic}
use Rattle.std.proofs.lemmas.Bool.Decides.{nat_tests}
use Rattle.alt_expr.specs.declared.token.Mark.{Mark}
use Rattle.alt_expr.specs.Spelling.{is_inner, is_blank, mark_of_byte, two_byte_mark}
use Rattle.alt_expr.specs.declared.lexer.Kind.{Kind}
use Rattle.alt_expr.specs.declared.lexer.Kind.TheVariants as k
use Rattle.alt_expr.specs.Look.{found, found_signed, found_single, found_mark}
use Rattle.alt_expr.proofs.Longest.{told, prefix_fits, stands_of}

prefix_here : (p : ℕ → Bool) (b : ℕ) (bs : List ℕ) → p b ≡ true → (m : ℕ)
    → m < suc (prefix_len p bs) → ((k : ℕ) → k < prefix_len p bs → p (get_or bs k 0) ≡ true)
    → p (get_or (b ∷ bs) m 0) ≡ true
prefix_here p b bs e zero h ih = e
prefix_here p b bs e (suc m) h ih = ih m (omega (arith, h))

prefix_last : (p : ℕ → Bool) (bs : List ℕ) (m : ℕ) → m < prefix_len p bs → p (get_or bs m 0) ≡ true
prefix_last p [] m h = absurd (omega (arith, h))
prefix_last p (b ∷ bs) m h = elim (cases_Bool (p b)) [
  | inl yes_b ↦ prefix_here p b bs yes_b m (let g = rw yes_b at h in omega (arith, g))
      (λ k g. prefix_last p bs k g)
  | inr no_b ↦ absurd (let g = rw no_b at h in omega (arith, g))
]

blank_ascii : (b : ℕ) → is_blank b ≡ true → b < 128
blank_ascii b h = grind (arith, nat_tests, h)

inner_ascii : (b : ℕ) → is_inner b ≡ true → b < 128
inner_ascii b h = grind (arith, nat_tests, h)

digit_ascii : (b : ℕ) → is_ascii_digit b ≡ true → b < 128
digit_ascii b h = grind (arith, nat_tests, h)

letter_ascii : (b : ℕ) → is_ascii_alphabetic b ≡ true → b < 128
letter_ascii b h = grind (arith, nat_tests, h)

mark_ascii : (b : ℕ) (m : Mark) → mark_of_byte b ≡ Some m → b < 128
mark_ascii b m h = grind (arith, nat_tests, h)

pair_ascii : (b c : ℕ) (m : Mark) → two_byte_mark b c ≡ Some m → c < 128
pair_ascii b c m h = grind (arith, nat_tests, h)

cut_after : (bs : List ℕ) (n : ℕ) → IsUtf8 bs → n ≤ length bs
    → ((m : ℕ) → n ≡ suc m → get_or bs m 0 < 128) → IsCharBoundary bs n
cut_after bs zero utf8 within last = IsCharBoundary-start bs utf8
cut_after bs (suc m) utf8 within last =
    rw (← add-one) (IsCharBoundary-after_ascii bs m utf8 (omega (arith, within)) (last m refl))

-- behind blanks a text may be cut
pub blank_cut : (bs : List ℕ) → IsUtf8 bs → IsCharBoundary bs (prefix_len is_blank bs)
blank_cut bs utf8 = cut_after bs (prefix_len is_blank bs) utf8 (prefix_fits is_blank bs)
    (λ m e. blank_ascii (get_or bs m 0) (prefix_last is_blank bs m (omega (arith, e))))

-- the last byte of what was found is ASCII
abbrev pub IsAsciiCut : List ℕ → Option (Kind × ℕ) → Type 0
IsAsciiCut text answer =
    MatchOption answer ⊤ (λ p. (m : ℕ) × (p.1 ≡ suc m) × (get_or text m 0 < 128))

-- within a run of bytes below 128 a text may be cut
run_cut : (p : ℕ → Bool) → ((b : ℕ) → p b ≡ true → b < 128) → (b : ℕ) (bs : List ℕ) → b < 128
    → (m : ℕ) → m ≤ prefix_len p bs → get_or (b ∷ bs) m 0 < 128
run_cut p ascii b bs first zero h = first
run_cut p ascii b bs first (suc m) h = ascii (get_or bs m 0) (prefix_last p bs m (omega (arith, h)))

byte_is : (b n : ℕ) → n < 128 → (b == n) ≡ true → b < 128
byte_is b n small h = grind (arith, nat_tests, h)

sign_cut : (kind : Kind) (b : ℕ) (bs : List ℕ) → b < 128
    → IsAsciiCut (b ∷ bs) (found_signed kind (suc (prefix_len is_inner bs)))
sign_cut kind b bs first = elim (cases_Bool (suc (prefix_len is_inner bs) == 1)) [
  | inl only ↦ rw only tt
  | inr more ↦ rw more (prefix_len is_inner bs, refl, run_cut is_inner inner_ascii b bs first (prefix_len is_inner bs) (omega arith))
]

single_cut : (b : ℕ) (bs : List ℕ) → IsAsciiCut (b ∷ bs) (found_single b)
single_cut b bs =
    elim (told (mark_of_byte
    b)) [ inl some ↦ rw some.1 (0, refl, mark_ascii b some.0 some.1) | inr none ↦ rw none tt ]

mark_cut : (b : ℕ) (bs : List ℕ) → IsAsciiCut (b ∷ bs) (found_mark b bs)
mark_cut b [] = single_cut b []
mark_cut b (c ∷ bs) = elim (told (two_byte_mark b c)) [
  | inl pair ↦ rw pair.1 (1, refl, pair_ascii b c pair.0 pair.1)
  | inr single ↦ rw single (single_cut b (c ∷ bs))
]

found_ascii : (text : List ℕ) → IsAsciiCut text (found text)
found_ascii [] = tt
found_ascii (b ∷ bs) = elim (cases_Bool (is_ascii_alphabetic b)) [
  | inl letter ↦ rw letter (prefix_len is_inner bs, refl, run_cut is_inner inner_ascii b bs (letter_ascii b letter) (prefix_len is_inner bs) (omega arith))
  | inr not_letter ↦ elim (cases_Bool (b == 35)) [
    | inl sign ↦ rw (not_letter, sign) (sign_cut k.Hash b bs (byte_is b 35 (omega arith) sign))
    | inr no_hash ↦ elim (cases_Bool (b == 58)) [
      | inl sign ↦
          rw (not_letter, no_hash, sign) (sign_cut k.Colon b bs (byte_is b 58 (omega arith) sign))
      | inr no_colon ↦ elim (cases_Bool (is_ascii_digit b)) [
        | inl digit ↦ rw (not_letter, no_hash, no_colon, digit) (min (prefix_len is_ascii_digit bs) 8, refl, run_cut is_ascii_digit digit_ascii b bs (digit_ascii b digit) (min (prefix_len is_ascii_digit bs) 8) (omega arith))
        | inr no_digit ↦ rw (not_letter, no_hash, no_colon, no_digit) (mark_cut b bs)
      ]
    ]
  ]
]

-- behind what was found a text may be cut
pub found_cut : (text : List ℕ) (kind : Kind) (n : ℕ) → IsUtf8 text → found text ≡ Some (kind, n)
    → IsCharBoundary text n
found_cut text kind n utf8 e =
    let a = subst (IsAsciiCut text) e (found_ascii text) in
    let s = stands_of text kind n e in
    cut_after text n utf8 s.within (λ m h. let same : a.0 ≡ m = omega (arith, h, a.1) in
    subst (λ i. get_or text i 0 < 128) same a.2)
