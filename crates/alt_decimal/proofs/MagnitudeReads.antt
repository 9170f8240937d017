-- The bytes of each magnitude are read back, whatever is behind them.
use Rattle.std.proofs.Common.{◌≡◌, ℕ, suc, ◌+◌, ◌-◌, ◌*◌, ◌/◌, ◌%◌, ◌^◌, ◌<◌, ◌≤◌, Bool, List, [], ◌∷◌, ◌++◌, length, get_or, take, drop, refl, sym, ap, ◌∙◌, subst, arith, append_assoc, length-append, inl, inr, Some, Option}
use Rattle.std.specs.Prelude.{ℤ, ◌⊎◌}
use Rattle.std.proofs.Math.Nat.{pow-suc}
use Rattle.std.proofs.Math.Seq.{take-append_seam}
use Rattle.std.proofs.lemmas.Nat.{pow-add}
use Rattle.std.proofs.lemmas.List.{map-append}
use Rattle.std.proofs.lemmas.Bool.{cases_eq}
use Rattle.std.specs.Int.Digits.{digits_of}
use Rattle.alt_decimal.specs.Digits.{width, digit_count}
use Rattle.alt_decimal.specs.Number.{with_sign, IsMagnitude}
use Rattle.alt_decimal.specs.Spelled.{digit_pairs, magnitude_bytes}
use Rattle.alt_decimal.specs.Unspelled.{raw, raws, pairs_value_after, Ends, PairsAreWhole, Decodes}
use Rattle.alt_decimal.proofs.Widths.{width-le, width-pos, lt-width, width-low, mul-width_gt, mul-width_le, case_pos, ten_pow-le}
use Rattle.alt_decimal.proofs.Magnitudes.{digit_count-mul}
use Rattle.alt_decimal.proofs.Spelling.{magnitude_bytes-mul}
use Rattle.alt_decimal.proofs.Trimmed.{Trimmed, trimmed_of}
use Rattle.alt_decimal.proofs.Unspelling.{IsPairs, AreOf, pairs_of}
use Rattle.alt_decimal.proofs.CoefficientPairs.{Bytes, raw-twice, raws-twice, Ends-same, Ends-append, pairs-Filled, rest_of}

-- ---- each magnitude's bytes are read

-- a coefficient, filled to whole pairs
pub record Filling (t : ℕ) : Type 0 where
  pub c : ℕ
  pub n : ℕ
  pub digits : ((t ≡ c) × (width t ≡ 2 * n)) ⊎ ((c ≡ t * 10) × (width t + 1 ≡ 2 * n))

-- what fills up the last pair
pub filling : (t : ℕ) → Filling t
filling t = elim (cases_eq (width t % 2) 0) [
  | inl even ↦ record { c = t; n = width t / 2; digits = inl (refl, omega (arith, even)) }
  | inr odd ↦ record { c = t * 10; n = (width t + 1) / 2; digits = inr (refl, omega (arith, odd)) }
]

module _ (t : ℕ) (last : 0 < t % 10) (few : t < 10 ^ 38) (f : Filling t) where
  -- a coefficient above 0 has a pair
  filled_some : 0 < f.n
  filled_some = elim f.digits [
    | inl h ↦ omega
        (arith, h.1, width-pos t (omega (arith, last)))
    | inr h ↦ omega (arith, h.1)
  ]

  -- one below 10^38 has at most 19 pairs
  pub filled_few : f.n ≤ 19
  filled_few = elim f.digits [
    | inl h ↦ omega (arith, h.1, width-le 38 t few)
    | inr h ↦ omega
        (arith, h.1, width-le 38 t few)
  ]

  -- the filled coefficient has no more digits than its pairs
  filled_below : f.c < 10 ^ (2 * f.n)
  filled_below = elim f.digits [
    | inl h ↦ rw (← h.0, ← h.1) (lt-width t)
    | inr h ↦ rw (← h.1, h.0) (omega (arith, lt-width t, pow-add 10 (width t) 1))
  ]

  -- the pairs are whole: the first isn't 0, nor is the last
  pub filled_whole : PairsAreWhole f.c f.n
  filled_whole = elim f.digits [
    | inl h ↦
        let (w, e) = case_pos (width t) (width-pos t (omega (arith, last))) in
        let i : 2 * f.n - 1 ≡ w = omega (arith, h.1, e) in
        record {
          some = filled_some;
          first = rw (i, ← h.0) (width-low t w e);
          last =
              rw (← h.0) (λ z. omega (arith, z, last));
        }
    | inr h ↦
        let (w, e) = case_pos (width t) (width-pos t (omega (arith, last))) in
        let i : 2 * f.n - 1 ≡ suc w = omega (arith, h.1, e) in
        record {
          some = filled_some;
          first = rw (i, h.0, pow-suc 10 w)
              (omega (arith, width-low t w e));
          last = rw h.0 (λ z. omega (arith, z, last));
        }
  ]

  -- the pairs are those of the filled coefficient
  pub filled_pairs : AreOf f.n f.c (digit_pairs (digits_of 10 t))
  filled_pairs = rw (pairs-Filled t f.c f.n filled_some f.digits) (pairs_of f.n f.c filled_below)

  -- and the coefficient is told by it
  filled_same : (u : ℕ) → 0 < u % 10 → ((u ≡ f.c) × (width u ≡ 2 * f.n))
      ⊎ ((f.c ≡ u * 10) × (width u + 1 ≡ 2 * f.n)) → u ≡ t
  filled_same u last_u h = elim f.digits [
    | inl g ↦ elim h [ inl k ↦ k.0 ∙ sym g.0 | inr k ↦ absurd (omega (arith, g.0, k.0, last)) ]
    | inr g ↦ elim h [
      | inl k ↦ absurd (omega (arith, g.0, k.0, last_u))
      | inr k ↦ omega
          (arith, g.0, k.0)
    ]
  ]

module _ (negative : Bool) (m : ℕ) (size : IsMagnitude m) (t : Trimmed m) where
  -- the coefficient of the magnitude
  abbrev pub co : ℕ
  co = t.coefficient

  -- the zeros behind it
  abbrev pub be : ℕ
  be = t.behind

  -- it is above 0
  co_pos : 0 < co
  co_pos = omega (arith, t.last)

  high : 37 < width co + be
  high = mul-width_gt co be 37 (rw (← t.is) size.least)

  most : width co + be ≤ 293
  most = mul-width_le co be 293 co_pos (rw (← t.is) size.below)

  few_co : co < 10 ^ 38
  few_co =
      let short : width co ≤ 38 = omega (
        arith,
        size.few_digits,
        ap digit_count t.is,
        digit_count-mul co be t.last,
      ) in
      omega (arith, lt-width co, ten_pow-le (width co) 38 short)

  -- the coefficient filled to whole pairs
  abbrev pub fill : Filling co
  fill = filling co

  -- these pairs
  abbrev pub ps : List ℕ
  ps = digit_pairs (digits_of 10 co)

  -- the place of the first digit, as its byte has it
  abbrev pub place : ℕ
  place = width co + be - 38

  -- the bytes of the magnitude are its place, its pairs and a 0
  bytes_of : magnitude_bytes m ≡ place ∷ (ps ++ 0 ∷ [])
  bytes_of = ap magnitude_bytes t.is ∙ magnitude_bytes-mul co be t.last

  are : AreOf fill.n fill.c ps
  are = filled_pairs co t.last few_co fill

  -- with the byte of the sign it is three bytes longer than its pairs
  pub length-magnitude : 1 + length (magnitude_bytes m) ≡ fill.n + 3
  length-magnitude = ap (λ bs. 1 + length bs) bytes_of
      ∙ omega (arith, length-append ps (0 ∷ []), are.count)

-- pairs and a 0 behind them are bytes
Bytes-pairs : (ps : List ℕ) → IsPairs ps → Bytes (ps ++ 0 ∷ [])
Bytes-pairs [] h = (omega arith, tt)
Bytes-pairs (p ∷ ps) h = (omega (arith, h.0), Bytes-pairs ps h.1)

raws-append : (negative : Bool) (xs ys : List ℕ)
    → raws negative (xs ++ ys) ≡ raws negative xs ++ raws negative ys
raws-append negative xs ys = map-append (raw negative) xs ys

module _ (negative : Bool) (m : ℕ) (size : IsMagnitude m) (t : Trimmed m) (b : ℕ) (bs rest : List ℕ)
    (b_is : b ≡ raw negative (place negative m size t))
    (bs_is : bs ≡ raws negative (ps negative m size t ++ 0 ∷ []) ++ rest) where
  abbrev digits_ps : List ℕ
  digits_ps = ps negative m size t

  abbrev held : Filling (co negative m size t)
  held = fill negative m size t

  held_are : AreOf held.n held.c digits_ps
  held_are = are negative m size t

  byte_place : raw negative b ≡ place negative m size t
  byte_place = ap (raw negative) b_is ∙ raw-twice negative (place negative m size t)
      (omega (arith, most negative m size t))

  tail_is : raws negative bs ≡ digits_ps ++ 0 ∷ raws negative rest
  tail_is =
      ap (raws negative) bs_is ∙ raws-append negative (raws negative (digits_ps ++ 0 ∷ [])) rest
      ∙ ap (λ ts. ts ++ raws negative rest) (raws-twice negative (digits_ps ++ 0 ∷ [])
      (Bytes-pairs digits_ps held_are.all))
      ∙ append_assoc digits_ps (0 ∷ []) (raws negative rest)

  -- the bytes at hand end behind these pairs
  pub ends : Ends (raws negative bs) held.n
  ends =
      let few : length digits_ps ≤ 19 = omega (
        arith,
        held_are.count,
        filled_few (co negative m size t) t.last
            (few_co negative m size t) held,
      ) in
      rw tail_is (subst (λ (n : ℕ). Ends (digits_ps ++ 0 ∷ raws negative rest) n) held_are.count
      (Ends-append digits_ps (raws negative rest) held_are.all few))

  -- the number of the pairs before the end is the filled coefficient
  value_of : pairs_value_after 0 (take held.n (raws negative bs)) ≡ held.c
  value_of =
      ap (λ ts. pairs_value_after 0 (take held.n ts)) tail_is
      ∙ ap (λ n. pairs_value_after 0 (take n (digits_ps ++ 0 ∷ raws negative rest)))
      (sym held_are.count)
      ∙ ap (pairs_value_after 0) (take-append_seam digits_ps (0 ∷ raws negative rest))
      ∙ held_are.value

  module _ (c n : ℕ) (e : Ends (raws negative bs) n)
      (value : c ≡ pairs_value_after 0 (take n (raws negative bs))) where
    pub same_n : n ≡ held.n
    same_n = Ends-same (raws negative bs) n held.n e ends

    same_c : c ≡ held.c
    same_c = value ∙ ap (λ k. pairs_value_after 0 (take k (raws negative bs))) same_n ∙ value_of

    pub whole : PairsAreWhole c n
    whole = rw (same_c, same_n) (filled_whole (co negative m size t) t.last
        (few_co negative m size t) held)

    pub right : (z : ℤ) → Decodes negative (raw negative b) c n z → z ≡ with_sign negative m
    right z d =
        let same : d.coefficient ≡ co negative m size t =
        filled_same (co negative m size t) t.last
        (few_co negative m size t) held d.coefficient d.last
        (rw (← same_c, ← same_n) d.digits) in
        let behind : d.behind ≡ be negative m size t =
        omega (arith, d.place, byte_place, high negative m size t, ap width same) in
        d.is ∙ ap (λ u. with_sign negative (u * 10 ^ d.behind)) same
        ∙ ap (λ i. with_sign negative (co negative m size t * 10 ^ i)) behind
        ∙ ap (with_sign negative) (sym t.is)

-- ---- the same, by what the reader's calls gave

module _ (negative : Bool) (m : ℕ) (size : IsMagnitude m) (rest : List ℕ) where
  trimmed_m : Trimmed m
  trimmed_m = trimmed_of m (omega (arith, size.least))

  shape : raws negative (magnitude_bytes m) ++ rest
      ≡ raw negative (place negative m size trimmed_m) ∷ (raws negative
      (ps negative m size trimmed_m ++ 0 ∷ []) ++ rest)
  shape = ap (λ ts. raws negative ts ++ rest) (bytes_of negative m size trimmed_m)

  module _ (b : ℕ) (bs : List ℕ) (is : b ∷ bs ≡ raws negative (magnitude_bytes m) ++ rest) where
    first_is : b ≡ raw negative (place negative m size trimmed_m)
    first_is = let e = is ∙ shape in cc

    rest_is : bs ≡ raws negative (ps negative m size trimmed_m ++ 0 ∷ []) ++ rest
    rest_is = let e = is ∙ shape in cc

    none_here : ((n : ℕ) → Ends (raws negative bs) n → ⊥) → ⊥
    none_here none = none (fill negative m size trimmed_m).n
        (ends negative m size trimmed_m b bs rest first_is rest_is)

    module _ (c n : ℕ) (e : Ends (raws negative bs) n)
        (value : c ≡ pairs_value_after 0 (take n (raws negative bs))) where
      bad_here : (PairsAreWhole c n → ⊥) → ⊥
      bad_here bad = bad (whole negative m size trimmed_m b bs rest first_is rest_is c n e value)

      right_here : (z : ℤ) → Decodes negative (raw negative b) c n z
          → (let found : Option (ℤ × ℕ) = Some (z, n + 3) in
          found ≡ Some (with_sign negative m, 1 + length (magnitude_bytes m)))
      right_here z d =
          let same : z ≡ with_sign negative m =
          right negative m size trimmed_m b bs rest first_is rest_is c n e value z d in
          let len : n + 3 ≡ 1 + length (magnitude_bytes m) =
          ap (λ k. k + 3) (same_n negative m size trimmed_m b bs rest first_is rest_is c n e value)
          ∙ sym (length-magnitude negative m size trimmed_m) in
          rw (same, len) refl

-- each spelling is read: not from no bytes
pub every_empty : (negative : Bool) (m : ℕ) (size : IsMagnitude m) (bytes rest : List ℕ)
    → length bytes < 1 → bytes ≡ raws negative (magnitude_bytes m) ++ rest → ⊥
every_empty negative m size bytes rest none is =
    omega (arith, none, ap length (is ∙ shape negative m size rest))

-- nor where no pair stands
pub every_none : (negative : Bool) (m : ℕ) (size : IsMagnitude m) (bytes rest : List ℕ)
    → 1 ≤ length bytes → bytes ≡ raws negative (magnitude_bytes m) ++ rest
    → ((n : ℕ) → Ends (raws negative (take (length bytes - 1) (drop 1 bytes))) n → ⊥) → ⊥
every_none negative m size [] rest some is none = absurd (omega arith)
every_none negative m size (b ∷ bs) rest some is none =
    none_here negative m size rest b bs is (subst
    (λ (ts : List ℕ). (n : ℕ) → Ends (raws negative ts) n → ⊥) (rest_of b bs) none)

-- nor where the pairs are wrong
pub every_bad : (negative : Bool) (m : ℕ) (size : IsMagnitude m) (bytes rest : List ℕ) (c n : ℕ)
    → 1 ≤ length bytes → bytes ≡ raws negative (magnitude_bytes m) ++ rest
    → Ends (raws negative (take (length bytes - 1) (drop 1 bytes))) n
    × (c ≡ pairs_value_after 0 (take n (raws negative
    (take (length bytes - 1) (drop 1 bytes)))))
    → (PairsAreWhole c n → ⊥) → ⊥
every_bad negative m size [] rest c n some is e bad = absurd (omega arith)
every_bad negative m size (b ∷ bs) rest c n some is e bad =
    let Held : List ℕ → Type 0 = λ (ts : List ℕ). Ends (raws negative ts) n
    × (c ≡ pairs_value_after 0 (take n (raws negative ts))) in
    let h : Held bs = subst Held (rest_of b bs) e in
    bad_here negative m size rest b bs is c n h.0 h.1 bad

-- and else as its number
pub every_right : (negative : Bool) (m : ℕ) (size : IsMagnitude m) (bytes rest : List ℕ) (c n r : ℕ)
    (z : ℤ) → 1 ≤ length bytes → bytes ≡ raws negative (magnitude_bytes m) ++ rest
    → r ≡ raw negative (get_or bytes 0 0)
    → Ends (raws negative (take (length bytes - 1) (drop 1 bytes))) n
    × (c ≡ pairs_value_after 0 (take n (raws negative
    (take (length bytes - 1) (drop 1 bytes)))))
    → Decodes negative r c n z
    → (let found : Option (ℤ × ℕ) = Some (z, n + 3) in
    found ≡ Some (with_sign negative m, 1 + length (magnitude_bytes m)))
every_right negative m size [] rest c n r z some is first e d = absurd (omega arith)
every_right negative m size (b ∷ bs) rest c n r z some is first e d =
    let Held : List ℕ → Type 0 = λ (ts : List ℕ). Ends (raws negative ts) n
    × (c ≡ pairs_value_after 0 (take n (raws negative ts))) in
    let h : Held bs = subst Held (rest_of b bs) e in
    right_here negative m size rest b bs is c n h.0 h.1 z
    (subst (λ (p : ℕ). Decodes negative p c n z) first d)
