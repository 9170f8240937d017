-- What is read has the bytes that were read, and each spelling is read as what it spells.
use Rattle.std.proofs.Common.{◌≡◌, ℕ, suc, ◌+◌, ◌-◌, ◌*◌, ◌^◌, ◌<◌, ◌≤◌, Bool, true, false, List, [], ◌∷◌, ◌++◌, length, get_or, take, drop, refl, sym, ap, ◌∙◌, subst, arith, inl, inr, Some, Option}
use Rattle.std.specs.Int.{is_negative}
use Rattle.std.specs.Prelude.{ℤ, pos, nat_abs, if◌then◌else◌, ◌⊎◌}
use Rattle.std.proofs.Math.Nat.{mul-pos}
use Rattle.std.proofs.lemmas.List.{take_more, length-map}
use Rattle.std.specs.Int.Digits.{digits_of}
use Rattle.alt_decimal.specs.Digits.{width, padded}
use Rattle.alt_decimal.specs.Number.{with_sign, FitsDecimal, IsMagnitude}
use Rattle.alt_decimal.specs.Spelled.{digit_pairs, magnitude_bytes, spelled}
use Rattle.alt_decimal.specs.Unspelled.{raw, raws, pairs_value_after, Ends, Decodes, IsSpelledAt}
use Rattle.alt_decimal.specs.Normal.{ten_pow_pos, nat_abs-with_sign}
use Rattle.alt_decimal.proofs.Widths.{width-le, width-pos, mul-ge, mul-lt}
use Rattle.alt_decimal.proofs.Magnitudes.{digit_count-mul}
use Rattle.alt_decimal.proofs.Spelling.{magnitude_bytes-mul, spelled-zero}
use Rattle.alt_decimal.proofs.Fitting.{with_sign-nat_abs}
use Rattle.alt_decimal.proofs.Unspelling.{pairs_padded}
use Rattle.alt_decimal.proofs.CoefficientPairs.{Bytes, raws-twice, raws-take, Bytes-take, Bytes-at, Ends-pairs, Ends-length, pairs-Filled, raw-byte, three, spelled-with_sign, rest_of}

-- ---- what was decoded has the bytes that were read

module _ (negative : Bool) (first : ℕ) (rest : List ℕ) (c n : ℕ) (z : ℤ) (bytes_first : first < 256)
    (bytes_rest : Bytes rest)
    (e : Ends (raws negative rest) n) (value : c
    ≡ pairs_value_after 0 (take n (raws negative rest)))
    (d : Decodes negative (raw negative first) c n z) where
  abbrev t : ℕ
  t = d.coefficient

  abbrev m : ℕ
  m = d.coefficient * 10 ^ d.behind

  t_pos : 0 < t
  t_pos = omega (arith, d.last)

  n_pos : 0 < n
  n_pos = elim d.digits [
    | inl h ↦ omega (arith, h.1, width-pos t t_pos)
    | inr h ↦ omega
        (arith, h.1)
  ]

  read_pairs : digit_pairs (digits_of 10 t) ≡ take n (raws negative rest)
  read_pairs =
      let ps = take n (raws negative rest) in
      pairs-Filled t c n n_pos d.digits ∙ ap (λ v. digit_pairs (padded (2 * n) v)) value
      ∙ ap (λ i. digit_pairs (padded (2 * i) (pairs_value_after 0 ps)))
      (sym (Ends-length (raws negative rest) n e))
      ∙ pairs_padded ps (Ends-pairs (raws negative rest) n e)

  magnitude_is : magnitude_bytes m ≡ raws negative (take (n + 2) (first ∷ rest))
  magnitude_is =
      let bs = raws negative rest in
      let place : width t + d.behind - 38 ≡ raw negative first = omega (arith, d.place) in
      let two : n + 2 ≡ suc (n + 1) = omega arith in
      let front : take n bs ++ 0 ∷ [] ≡ take (n + 1) bs =
      ap (λ b. take n bs ++ b ∷ []) (sym e.at_end) ∙ sym (take_more bs n 0 e.within) in
      magnitude_bytes-mul t d.behind d.last ∙ ap (λ p. p ∷ (digit_pairs (digits_of 10 t) ++ 0 ∷ [])) place
      ∙ ap (λ ps. raw negative first ∷ (ps ++ 0 ∷ [])) read_pairs
      ∙ ap (λ ps. raw negative first ∷ ps) (front ∙ sym (raws-take negative (n + 1) rest))
      ∙ ap (λ i. raws negative (take i (first ∷ rest))) (sym two)

  magnitude_fits : IsMagnitude m
  magnitude_fits = record {
    few_digits = omega (arith, digit_count-mul t d.behind d.last, width-le 38 t d.few);
    least = mul-ge t d.behind 37 t_pos (omega (arith, d.place));
    below = mul-lt t d.behind 293 (omega (arith, d.place, raw-byte negative first bytes_first));
  }

  -- bytes that were read are the spelling of the number that they were read as
  pub IsSpelledAt-decoded : IsSpelledAt negative (first ∷ rest) z (n + 3)
  IsSpelledAt-decoded = record {
    spelling = ap spelled d.is ∙ spelled-with_sign negative m (mul-pos t_pos (ten_pow_pos d.behind))
        ∙ ap (λ bs. (if negative then 1 else 3) ∷ raws negative bs) magnitude_is
        ∙ ap (λ bs. (if negative then 1 else 3) ∷ bs)
        (raws-twice negative (take (n + 2) (first ∷ rest))
        (Bytes-take (n + 2) (first ∷ rest) (bytes_first, bytes_rest)))
        ∙ ap (λ i. (if negative then 1 else 3) ∷ take i (first ∷ rest)) (three n);
    fits = rw d.is (inr (rw (nat_abs-with_sign negative m) magnitude_fits));
    some = omega arith;
  }

-- the same, by what the reader's calls gave
pub IsSpelledAt-read : (negative : Bool) (bytes : List ℕ) (c n r : ℕ) (z : ℤ) → 1 ≤ length bytes
    → ((i : ℕ) → get_or bytes i 0 < 256)
    → r ≡ raw negative (get_or bytes 0 0)
    → Ends (raws negative (take (length bytes - 1) (drop 1 bytes))) n
    × (c ≡ pairs_value_after 0 (take n (raws negative
    (take (length bytes - 1) (drop 1 bytes)))))
    → Decodes negative r c n z → IsSpelledAt negative bytes z (n + 3)
IsSpelledAt-read negative [] c n r z some small first e d = absurd (omega arith)
IsSpelledAt-read negative (b ∷ bs) c n r z some small first e d =
    let rest = rest_of b bs in
    let Held : List ℕ → Type 0 = λ (ts : List ℕ). Ends (raws negative ts) n
    × (c ≡ pairs_value_after 0 (take n (raws negative ts))) in
    let h : Held bs = subst Held rest e in
    let d' : Decodes negative (raw negative b) c n z =
    subst (λ (p : ℕ). Decodes negative p c n z) first d in
    IsSpelledAt-decoded negative b bs c n z (small 0) (Bytes-at bs (λ i. small (suc i))) h.0 h.1 d'

-- ---- whole spellings

-- one more, on the left
suc_is : (n : ℕ) → suc n ≡ 1 + n
suc_is n = omega arith

-- the first byte tells the sign
sign_byte : (s negative : Bool) → (let a : ℕ = if s then 1 else 3 in
    a ≡ (if negative then 1 else 3)) → s ≡ negative
sign_byte true true e = refl
sign_byte false false e = refl
sign_byte true false e = absurd (omega (arith, e))
sign_byte false true e = absurd (omega (arith, e))

-- a number above or below zero, by its sign and its magnitude
module _ (z : ℤ) (size : IsMagnitude (nat_abs z)) where
  spelled-magnitude : spelled z ≡ (if is_negative z then 1 else 3) ∷ raws (is_negative z)
      (magnitude_bytes (nat_abs z))
  spelled-magnitude =
      ap spelled (sym (with_sign-nat_abs z)) ∙ spelled-with_sign (is_negative z) (nat_abs z)
      (omega (arith, size.least))

  length-spelled : length (spelled z) ≡ 1 + length (magnitude_bytes (nat_abs z))
  length-spelled = ap length spelled-magnitude
      ∙ ap (λ n. suc n) (length-map (magnitude_bytes (nat_abs z)) (raw (is_negative z))) ∙ suc_is _

  -- read behind the first byte
  read_signed : (negative : Bool) (b : ℕ) (bs rest : List ℕ) (result : Option (ℤ × ℕ))
      → b ≡ (if negative then 1 else 3) → b ∷ bs ≡ spelled z ++ rest
      → ((m : ℕ) (after : List ℕ) → IsMagnitude m → bs ≡ raws negative (magnitude_bytes m) ++ after
      → result ≡ Some (with_sign negative m, 1 + length (magnitude_bytes m)))
      → result ≡ Some (z, length (spelled z))
  read_signed negative b bs rest result first is read =
      let parts : b ∷ bs ≡ (if is_negative z then 1 else 3) ∷ (raws (is_negative z)
      (magnitude_bytes (nat_abs z)) ++ rest) =
      is ∙ ap (λ ts. ts ++ rest) spelled-magnitude in
      let byte : b ≡ (if is_negative z then 1 else 3) = cc in
      let same : is_negative z ≡ negative = sign_byte (is_negative z) negative (sym byte ∙ first) in
      let behind : bs ≡ raws (is_negative z) (magnitude_bytes (nat_abs z)) ++ rest = cc in
      let found = read (nat_abs z) rest size (behind
      ∙ ap (λ s. raws s (magnitude_bytes (nat_abs z)) ++ rest) same) in
      let number : with_sign negative (nat_abs z) ≡ z =
      ap (λ s. with_sign s (nat_abs z)) (sym same) ∙ with_sign-nat_abs z in
      found ∙ ap (λ y. Some (y, 1 + length (magnitude_bytes (nat_abs z)))) number
      ∙ ap (λ n. Some (z, n)) (sym length-spelled)

  first_of : (b : ℕ) (bs rest : List ℕ) → b ∷ bs ≡ spelled z ++ rest
      → b ≡ (if is_negative z then 1 else 3)
  first_of b bs rest is = let e = is ∙ ap (λ ts. ts ++ rest) spelled-magnitude in cc

-- that of zero is its own
zero_first : (b : ℕ) (bs rest : List ℕ) → b ∷ bs ≡ spelled (pos 0) ++ rest → b ≡ 2
zero_first b bs rest is = let e = is ∙ ap (λ ts. ts ++ rest) spelled-zero in cc

not_two : (s : Bool) → (let a : ℕ = if s then 1 else 3 in a ≡ 2) → ⊥
not_two true e = omega (arith, e)
not_two false e = omega (arith, e)

one_or_three : (s : Bool) (b : ℕ) → b ≡ (if s then 1 else 3) → (b ≡ 1) ⊎ (b ≡ 3)
one_or_three true b e = inl e
one_or_three false b e = inr e

-- each spelling with a sign is read
pub every_signed : (negative : Bool) (bytes rest : List ℕ) (z : ℤ) (result : Option (ℤ × ℕ))
    → 1 ≤ length bytes → get_or bytes 0 0 ≡ (if negative then 1 else 3)
    → FitsDecimal z → bytes ≡ spelled z ++ rest
    → ((m : ℕ) (after : List ℕ) → IsMagnitude m
    → take (length bytes - 1) (drop 1 bytes) ≡ raws negative (magnitude_bytes m) ++ after
    → result ≡ Some (with_sign negative m, 1 + length (magnitude_bytes m)))
    → result ≡ Some (z, length (spelled z))
every_signed negative [] rest z result some first fits is read = absurd (omega arith)
every_signed negative (b ∷ bs) rest z result some first fits is read = elim fits [
  | inl none ↦ absurd (not_two negative (sym first
      ∙ zero_first b bs rest (is ∙ ap (λ y. spelled y ++ rest) none)))
  | inr size ↦ read_signed z size negative b bs rest result first is
      (λ m after s e. read m after s (rest_of b bs ∙ e))
]

-- and that of zero
pub every_zero : (bytes rest : List ℕ) (z y : ℤ) → 1 ≤ length bytes → get_or bytes 0 0 ≡ 2 → FitsDecimal z
    → bytes ≡ spelled z ++ rest → y ≡ pos 0
    → (let found : Option (ℤ × ℕ) = Some (y, 1) in found ≡ Some (z, length (spelled z)))
every_zero [] rest z y some first fits is zero_is = absurd (omega arith)
every_zero (b ∷ bs) rest z y some first fits is zero_is = elim fits [
  | inl none ↦ rw (zero_is, none) (ap (λ n. Some (pos 0, n)) (sym (ap length spelled-zero)))
  | inr size ↦ absurd (not_two (is_negative z) (sym (first_of z size b bs rest is) ∙ first))
]

-- the first byte of a spelling is one of three
pub first_bytes : (bytes rest : List ℕ) (z : ℤ) → FitsDecimal z → bytes ≡ spelled z ++ rest
    → (0 < length bytes) × ((get_or bytes 0 0 ≡ 2)
    ⊎ ((get_or bytes 0 0 ≡ 1) ⊎ (get_or bytes 0 0 ≡ 3)))
first_bytes [] rest z fits is = elim fits [
  | inl none ↦ absurd (omega (
    arith,
    ap length
        (is ∙ ap (λ y. spelled y ++ rest) none ∙ ap (λ ts. ts ++ rest) spelled-zero),
  ))
  | inr size ↦ absurd (omega (
    arith,
    ap length
        (is ∙ ap (λ ts. ts ++ rest) (spelled-magnitude z size)),
  ))
]
first_bytes (b ∷ bs) rest z fits is = elim fits [
  | inl none ↦ (omega arith, inl (zero_first b bs rest (is ∙ ap (λ y. spelled y ++ rest) none)))
  | inr size ↦ (omega arith, inr (one_or_three (is_negative z) b (first_of z size b bs rest is)))
]

-- the bytes of zero
pub zero_bytes : (bytes : List ℕ) (y : ℤ) → 1 ≤ length bytes → get_or bytes 0 0 ≡ 2 → y ≡ pos 0
    → (take 1 bytes ≡ spelled y) × FitsDecimal y
zero_bytes [] y some first zero_is = absurd (omega arith)
zero_bytes (b ∷ bs) y some first zero_is = (
  ap (λ x. x ∷ []) first
      ∙ sym (ap spelled zero_is ∙ spelled-zero),
  inl zero_is,
)
