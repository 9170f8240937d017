-- The spelling of a number, by its coefficient and the zeros behind it.
use Rattle.std.proofs.Common.{◌≡◌, ℕ, zero, suc, ◌+◌, ◌-◌, ◌*◌, ◌/◌, ◌%◌, ◌^◌, ◌<◌, ◌≤◌, true, false, List, [], ◌∷◌, ◌++◌, length, take, drop, All, refl, sym, ap, ◌∙◌, arith, replicate, length-take, inl, inr}
use Rattle.std.specs.Prelude.{pos}
use Rattle.std.proofs.Math.Nat.{mul-pos, mul-div_cancel}
use Rattle.std.proofs.Math.Seq.{take-append_seam, take-append-add}
use Rattle.std.proofs.lemmas.Bool.{cases_lt, ne_eqb}
use Rattle.std.proofs.lemmas.List.{get_or-take, drop-take, length-map}
use Rattle.std.proofs.lemmas.Slice.{take-put_mid}
use borrow.Rule.Slice.PartMut.{put_mid}
use Rattle.std.proofs.lemmas.List.Elements.{All-nil, All-cons}
use Rattle.std.specs.Int.Digits.{digits_of}
use Rattle.alt_decimal.specs.declared.Decimal.TheInside.{Inside}
use Rattle.alt_decimal.specs.Form.{units_of, IsNormal}
use Rattle.alt_decimal.specs.Digits.{width, padded, glyphs}
use Rattle.alt_decimal.specs.Spelled.{digit_pairs, complement, magnitude_bytes, spelled}
use Rattle.alt_decimal.specs.Normal.{ten_pow_pos, trimmed-mul, nat_abs-with_sign, is_negative-with_sign}
use Rattle.alt_decimal.proofs.Widths.{width-mul, width-le, case_pos}
use Rattle.alt_decimal.proofs.Padded.{padded-append, padded-mul, padded-first, padded-none, length-padded, digits_of-padded, glyphs-cons, glyphs-none}
use Rattle.alt_decimal.proofs.Pairs.{pairs-filled}

-- raw digits are their own bytes
pub glyphs-raw : (ds : List ℕ) → glyphs 0 ds ≡ ds
glyphs-raw [] = glyphs-none 0
glyphs-raw (d ∷ ds) = glyphs-cons 0 d ds ∙ rw (glyphs-raw ds) (ap (λ x. x ∷ ds) (omega arith))

-- the digits of a coefficient that is filled up to 38
filled_digits : (c w : ℕ) → w ≡ width c → w ≤ 38
    → padded 38 (c * 10 ^ (38 - w)) ≡ padded w c ++ replicate (38 - w) 0
filled_digits c w e few =
    let k = 38 - w in
    let sum : 38 ≡ w + k = omega arith in
    ap (λ i. padded i (c * 10 ^ k)) sum ∙ padded-append w k (c * 10 ^ k)
    ∙ ap (λ n. padded w n ++ padded k (c * 10 ^ k)) (mul-div_cancel c (ten_pow_pos k))
    ∙ ap (λ ds. padded w c ++ ds) (padded-mul k c)

-- the digits of even or odd number, taken in whole pairs
front_even : (c w count : ℕ) → 2 * count ≡ w → take (2 * count) (padded w c ++ replicate (38 - w) 0)
    ≡ padded w c
front_even c w count e =
    ap (λ i. take i (padded w c ++ replicate (38 - w) 0)) (e ∙ sym (length-padded w c))
    ∙ take-append_seam (padded w c) (replicate (38 - w) 0)

-- the pairs at the front, where the digits are odd in number
front_odd : (c w count : ℕ) → 2 * count ≡ w + 1 → w < 38
    → take (2 * count) (padded w c ++ replicate (38 - w) 0) ≡ padded w c ++ 0 ∷ []
front_odd c w count e few =
    let n : 2 * count ≡ length (padded w c) + 1 = omega (arith, length-padded w c, e) in
    let (k, is) = case_pos (38 - w) (omega arith) in
    ap (λ i. take i (padded w c ++ replicate (38 - w) 0)) n
    ∙ take-append-add (padded w c) (replicate (38 - w) 0) 1
    ∙ ap (λ i. padded w c ++ take 1 (replicate i 0)) is

-- the pairs of a coefficient stand at the front of 38 digits
pub pairs_front : (c w count : ℕ) → w ≡ width c → w ≤ 38 → count ≡ (w + 1) / 2
    → digit_pairs (take (2 * count) (padded 38 (c * 10 ^ (38 - w)))) ≡ digit_pairs (digits_of 10 c)
pairs_front c w count e few half =
    let spec : digit_pairs (padded w c) ≡ digit_pairs (digits_of 10 c) =
    ap digit_pairs (ap (λ i. padded i c) e ∙ sym (digits_of-padded c)) in
    ap (λ ds. digit_pairs (take (2 * count) ds)) (filled_digits c w e few)
    ∙ elim (cases_lt w (2 * count)) [
      | inl odd ↦
          let n : 2 * count ≡ w + 1 = omega arith in
          ap digit_pairs (front_odd c w count n (omega arith))
          ∙ pairs-filled (count - 1) (padded w c) (omega (arith, length-padded w c)) ∙ spec
      | inr even ↦ ap digit_pairs (front_even c w count (omega arith)) ∙ spec
    ]

-- each digit is below ten
abbrev Small : ℕ → Type 0
Small d = d < 10

-- digits are below ten
small_padded : (k n : ℕ) → All Small (padded k n)
small_padded zero n = rw (padded-none n) (All-nil Small)
small_padded (suc k) n = rw (padded-first k n)
    (All-cons Small (n / 10 ^ k % 10) (padded k n) (omega arith) (small_padded k n))

All-take : (n : ℕ) (xs : List ℕ) → All Small xs → All Small (take n xs)
All-take n xs all = λ k d h.
    let within : k < n = omega (arith, h, length-take n xs) in
    rw (get_or-take n xs k d within) (all k d (omega (arith, h, length-take n xs)))

-- so are those at the front
pub small_front : (n f : ℕ) (ds : List ℕ) → ds ≡ glyphs 0 (padded 38 f) → All Small (take n ds)
small_front n f ds e = rw (e, glyphs-raw (padded 38 f))
    (All-take n (padded 38 f) (small_padded 38 f))

-- the bytes of a magnitude, by coefficient and zeros
pub magnitude_bytes-mul : (c z : ℕ) → 0 < c % 10
    → magnitude_bytes (c * 10 ^ z) ≡ (width c + z - 38) ∷ (digit_pairs (digits_of 10 c) ++ 0 ∷ [])
unfolding magnitude_bytes
magnitude_bytes-mul c z last = rw (trimmed-mul c z last, width-mul c z (omega arith)) refl

-- the digits of a `Decimal` are spelled
module _ (sign c z : ℕ) (last : 0 < c % 10) (few : c < 10 ^ 38) where
  pub spelled_bytes : (w count first : ℕ) (ds bytes : List ℕ) → w ≡ width c → count ≡ (w + 1) / 2
      → first ≡ w + z - 38
      → ds ≡ take (2 * count) (glyphs 0 (padded 38 (c * 10 ^ (38 - w))))
      → bytes ≡ sign ∷ first ∷ (digit_pairs ds ++ 0 ∷ [])
      → bytes ≡ sign ∷ magnitude_bytes (c * 10 ^ z)
  spelled_bytes w count first ds bytes e half place digits is =
      let short : w ≤ 38 = omega (arith, e, width-le 38 c few) in
      let ps : digit_pairs ds ≡ digit_pairs (digits_of 10 c) =
      ap digit_pairs digits ∙ ap (λ xs. digit_pairs (take (2 * count) xs))
      (glyphs-raw (padded 38 (c * 10 ^ (38 - w)))) ∙ pairs_front c w count e short half in
      is ∙ ap (λ xs. sign ∷ first ∷ (xs ++ 0 ∷ [])) ps
      ∙ ap (λ p. sign ∷ p ∷ (digit_pairs (digits_of 10 c) ++ 0 ∷ [])) (place ∙ ap (λ i. i + z - 38) e)
      ∙ ap (λ xs. sign ∷ xs) (sym (magnitude_bytes-mul c z last))

-- ---- the spelling of a `Decimal`

-- zero, spelled
pub spelled-zero : spelled (pos 0) ≡ 2 ∷ []
unfolding spelled
spelled-zero = refl

-- a number above zero
pub spelled-above : (d : Inside) → IsNormal d → 0 < d.coefficient → d.negative ≡ false
    → spelled (units_of d) ≡ 3 ∷ magnitude_bytes (d.coefficient * 10 ^ d.zeros)
unfolding spelled
spelled-above d n above sign =
    let m = d.coefficient * 10 ^ d.zeros in
    let m_pos : 0 < m = mul-pos above (ten_pow_pos d.zeros) in
    rw (
      nat_abs-with_sign d.negative m,
      is_negative-with_sign d.negative m m_pos,
      sign,
      ne_eqb m 0 (λ z. omega (arith, m_pos, z)),
    ) refl

-- and one below
pub spelled-below : (d : Inside) → IsNormal d → 0 < d.coefficient → d.negative ≡ true
    → spelled (units_of d) ≡ 1 ∷ complement (magnitude_bytes (d.coefficient * 10 ^ d.zeros))
unfolding spelled
spelled-below d n above sign =
    let m = d.coefficient * 10 ^ d.zeros in
    let m_pos : 0 < m = mul-pos above (ten_pow_pos d.zeros) in
    rw (
      nat_abs-with_sign d.negative m,
      is_negative-with_sign d.negative m m_pos,
      sign,
      ne_eqb m 0 (λ z. omega (arith, m_pos, z)),
    ) refl

-- ---- a negative number's bytes are flipped

-- the first byte alone
first_byte : (r x : ℕ) (buf m : List ℕ) → take r buf ≡ x ∷ m → take 1 buf ≡ x ∷ []
first_byte zero x buf m e = cc
first_byte (suc r) x [] m e = cc
first_byte (suc r) x (b ∷ buf) m e = let same : b ≡ x = cc in ap (λ y. y ∷ []) same

-- the bytes behind the first, flipped
pub flipped : (r x : ℕ) (buf m f : List ℕ) → take r buf ≡ x ∷ m → r ≡ 1 + length m → r ≤ length buf
    → f ≡ complement (take (r - 1) (drop 1 buf))
    → take r (put_mid 1 (r - 1) buf f) ≡ x ∷ complement m
flipped r x buf m f e some within is =
    let one : 1 + (r - 1) ≡ r = omega (arith, some) in
    let rest : take (r - 1) (drop 1 buf) ≡ m =
    sym (drop-take 1 (r - 1) buf) ∙ ap (λ i. drop 1 (take i buf)) one ∙ ap (drop 1) e in
    let f_is : f ≡ complement m = is ∙ ap complement rest in
    let len : r ≡ 1 + length f = some ∙ ap (λ n. 1 + n)
    (sym (ap length f_is ∙ length-map m (λ b. 255 - b))) in
    take-put_mid 1 (r - 1) buf f r len (omega (arith, some, within))
    ∙ ap (λ ts. ts ++ f) (first_byte r x buf m e) ∙ ap (λ ts. x ∷ ts) f_is

-- flipping keeps the length
pub length-complement : (bs : List ℕ) → length (complement bs) ≡ length bs
length-complement bs = length-map bs (λ b. 255 - b)
