-- The pairs of a coefficient in its bytes: bytes flipped twice, where the pairs end, and spellings by sign.
use Rattle.std.proofs.Common.{◌≡◌, ℕ, zero, suc, ◌+◌, ◌-◌, ◌*◌, ◌/◌, ◌%◌, ◌^◌, ◌<◌, ◌≤◌, Bool, true, false, List, [], ◌∷◌, ◌++◌, length, get_or, take, refl, sym, ap, ◌∙◌, subst, arith, length-append, length-take, inl, inr}
use Rattle.std.specs.Prelude.{if◌then◌else◌, ◌⊎◌}
use Rattle.std.proofs.lemmas.List.{get_or_append_left, get_or-append-add}
use Rattle.std.proofs.lemmas.Bool.{cases_order, ne_eqb}
use Rattle.std.specs.Int.Digits.{digits_of}
use Rattle.alt_base.proofs.Lists.{take-length}
use Rattle.alt_decimal.specs.Digits.{width, padded}
use Rattle.alt_decimal.specs.Number.{with_sign}
use Rattle.alt_decimal.specs.Spelled.{digit_pairs, magnitude_bytes, spelled}
use Rattle.alt_decimal.specs.Unspelled.{raw, raws, pairs_value_after, IsPair, Ends}
use Rattle.alt_decimal.specs.Normal.{nat_abs-with_sign, is_negative-with_sign}
use Rattle.alt_decimal.proofs.Padded.{digits_of-padded, padded-last, length-padded}
use Rattle.alt_decimal.proofs.Pairs.{pairs-filled}
use Rattle.alt_decimal.proofs.Unspelling.{IsPairs, pairs_below}

-- ---- bytes flipped twice

-- each number is a byte
abbrev pub Bytes : List ℕ → Type 0
Bytes [] = Unit {0}
Bytes (b ∷ bs) = (b < 256) × Bytes bs

pub raw-twice : (negative : Bool) (b : ℕ) → b < 256 → raw negative (raw negative b) ≡ b
raw-twice true b h = omega arith
raw-twice false b h = refl

pub raws-twice : (negative : Bool) (bs : List ℕ) → Bytes bs → raws negative (raws negative bs) ≡ bs
raws-twice negative [] h = refl
raws-twice negative (b ∷ bs) h = rw (raw-twice negative b h.0, raws-twice negative bs h.1) refl

raws-plain : (bs : List ℕ) → raws false bs ≡ bs
raws-plain [] = refl
raws-plain (b ∷ bs) = ap (λ ts. b ∷ ts) (raws-plain bs)

pub raws-take : (negative : Bool) (n : ℕ) (bs : List ℕ)
    → raws negative (take n bs) ≡ take n (raws negative bs)
raws-take negative zero bs = refl
raws-take negative (suc n) [] = refl
raws-take negative (suc n) (b ∷ bs) = ap (λ ts. raw negative b ∷ ts) (raws-take negative n bs)

pub Bytes-take : (n : ℕ) (bs : List ℕ) → Bytes bs → Bytes (take n bs)
Bytes-take zero bs h = tt
Bytes-take (suc n) [] h = tt
Bytes-take (suc n) (b ∷ bs) h = (h.0, Bytes-take n bs h.1)

-- place by place
pub Bytes-at : (bs : List ℕ) → ((i : ℕ) → get_or bs i 0 < 256) → Bytes bs
Bytes-at [] h = tt
Bytes-at (b ∷ bs) h = (h 0, Bytes-at bs (λ i. h (suc i)))

-- ---- where the pairs end

-- what stands before the end are pairs
pairs_before : (n : ℕ) (bs : List ℕ) → n ≤ length bs → ((k : ℕ) → k < n → IsPair (get_or bs k 0))
    → IsPairs (take n bs)
pairs_before zero bs le h = tt
pairs_before (suc n) [] le h = tt
pairs_before (suc n) (b ∷ bs) le h = (
  h 0 (omega arith),
  pairs_before n bs (omega arith) (λ k lt. h (suc k) (omega arith)),
)

-- where the bytes end behind pairs
pub Ends-pairs : (bs : List ℕ) (n : ℕ) → Ends bs n → IsPairs (take n bs)
Ends-pairs bs n e = pairs_before n bs (omega (arith, e.within)) e.pairs

-- there are as many bytes before the end as its place says
pub Ends-length : (bs : List ℕ) (n : ℕ) → Ends bs n → length (take n bs) ≡ n
Ends-length bs n e = omega (arith, length-take n bs, e.within)

-- their number has as many digits as they
pub Ends-below : (bs : List ℕ) (n : ℕ) → Ends bs n → pairs_value_after 0 (take n bs) < 10 ^ (2 * n)
Ends-below bs n e = subst (λ (k : ℕ). pairs_value_after 0 (take n bs) < 10 ^ (2 * k))
    (Ends-length bs n e) (pairs_below (take n bs) (Ends-pairs bs n e))

-- bytes end at one place
pub Ends-same : (bs : List ℕ) (m n : ℕ) → Ends bs m → Ends bs n → m ≡ n
Ends-same bs m n e f = elim (cases_order m n) [
  | inl same ↦ same
  | inr other ↦ elim other [
    | inl lt ↦ absurd (omega (arith, (f.pairs m lt).0, e.at_end))
    | inr gt ↦ absurd (omega (arith, (e.pairs n gt).0, f.at_end))
  ]
]

pairs-at : (ps : List ℕ) → IsPairs ps → (k : ℕ) → k < length ps → IsPair (get_or ps k 0)
pairs-at [] h k lt = absurd (omega arith)
pairs-at (p ∷ ps) h zero lt = h.0
pairs-at (p ∷ ps) h (suc k) lt = pairs-at ps h.1 k (omega arith)

pub Ends-append : (ps rest : List ℕ) → IsPairs ps → length ps ≤ 19 → Ends (ps ++ 0 ∷ rest)
    (length ps)
Ends-append ps rest h few = record {
  within = omega (arith, length-append ps (0 ∷ rest));
  at_end = ap (λ i. get_or (ps ++ 0 ∷ rest) i 0) plus_none ∙ get_or-append-add ps (0 ∷ rest) 0 0;
  few = few;
  pairs = λ k lt. rw (get_or_append_left ps (0 ∷ rest) 0 k lt) (pairs-at ps h k lt);
}
  where
    plus_none : length ps ≡ length ps + 0
    plus_none = omega arith

-- ---- the pairs of a coefficient

-- c is t, with a 0 behind it where that makes whole pairs
pub record Filled (t c n : ℕ) : Type 0 where
  pub digits : ((t ≡ c) × (width t ≡ 2 * n)) ⊎ ((c ≡ t * 10) × (width t + 1 ≡ 2 * n))

-- a coefficient has the pairs of its digits, filled to whole pairs
pub pairs-Filled : (t c n : ℕ) → 0 < n → ((t ≡ c) × (width t ≡ 2 * n))
    ⊎ ((c ≡ t * 10) × (width t + 1 ≡ 2 * n)) → digit_pairs (digits_of 10 t) ≡ digit_pairs (padded (2 * n) c)
pairs-Filled t c n some h = elim h [
  | inl e ↦ ap digit_pairs (digits_of-padded t) ∙ ap (λ i. digit_pairs (padded i t)) e.1
      ∙ ap (λ m. digit_pairs (padded (2 * n) m)) e.0
  | inr e ↦
      let w = width t in
      let suc_w : 2 * n ≡ suc w = omega (arith, e.1) in
      let front : c / 10 ≡ t = omega (arith, e.0) in
      let last : c % 10 ≡ 0 = omega (arith, e.0) in
      let cut : padded (2 * n) c ≡ padded w t ++ 0 ∷ [] =
      ap (λ i. padded i c) suc_w ∙ padded-last w c ∙ rw (front, last) refl in
      ap digit_pairs (digits_of-padded t) ∙ sym (ap digit_pairs cut
      ∙ pairs-filled (n - 1) (padded w t) (omega (arith, length-padded w t, e.1, some)))
]

-- ---- spellings by sign and magnitude

pub raw-byte : (negative : Bool) (b : ℕ) → b < 256 → raw negative b < 256
raw-byte true b h = omega arith
raw-byte false b h = h

-- a length with its first byte
pub three : (n : ℕ) → n + 2 ≡ n + 3 - 1
three n = omega arith

-- a number that isn't zero, spelled
pub spelled-with_sign : (negative : Bool) (m : ℕ) → 0 < m
    → spelled (with_sign negative m) ≡ (if negative then 1 else 3) ∷ raws negative
    (magnitude_bytes m)
unfolding spelled
spelled-with_sign true m h = rw (
  nat_abs-with_sign true m,
  is_negative-with_sign true m h,
  ne_eqb m 0 (λ z. omega (arith, h, z)),
) refl
spelled-with_sign false m h =
    rw (
      nat_abs-with_sign false m,
      is_negative-with_sign false m h,
      ne_eqb m 0 (λ z. omega (arith, h, z)),
      raws-plain (magnitude_bytes m),
    ) refl

pub rest_of : (b : ℕ) (bs : List ℕ) → take (length {A = ℕ} (b ∷ bs) - 1) bs ≡ bs
rest_of b bs = let e : suc (length bs) - 1 ≡ length bs = omega arith in
    ap (λ i. take i bs) e ∙ take-length bs
