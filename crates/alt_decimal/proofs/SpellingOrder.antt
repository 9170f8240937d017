-- The byte order of spellings is the order of numbers.
use Rattle.std.proofs.Common.{◌≡◌, ◌≢◌, ℕ, zero, suc, ◌+◌, ◌-◌, ◌*◌, ◌%◌, ◌^◌, ◌<◌, ◌≤◌, List, [], ◌∷◌, ◌++◌, length, refl, sym, ap, ◌∙◌, arith, inl, inr}
use Rattle.std.specs.Prelude.{ℤ, pos, neg_ℤ}
use Rattle.std.specs.Ordering.{nat_cmp, int_cmp}
use Rattle.std.specs.declared.cmp.Ordering.TheVariants.{Less, Greater}
use Rattle.std.specs.Cmp.Lexicographic.{slice_cmp}
use Rattle.std.proofs.Math.Nat.{mul_assoc, mul-pos, mul-lt-mul_of_pos_right, mul-le-mul_right}
use Rattle.std.proofs.lemmas.Nat.{pow-add}
use Rattle.std.proofs.lemmas.Bool.{cases_order, cases_lt, cases_Bool}
use Rattle.alt_decimal.proofs.Magnitudes.{units_of-zero}
use Rattle.std.specs.Int.Digits.{digits_of}
use Rattle.alt_base.proofs.Orderings.{nat_cmp-equal, nat_cmp-greater, nat_cmp-less}
use Rattle.alt_decimal.specs.Digits.{width}
use Rattle.alt_decimal.specs.Number.{with_sign}
use Rattle.alt_decimal.specs.declared.Decimal.TheInside.{Inside}
use Rattle.alt_decimal.specs.Form.{units_of, IsNormal}
use Rattle.alt_decimal.specs.Spelled.{digit_pairs, complement, magnitude_bytes, spelled}
use Rattle.alt_decimal.specs.Unspelled.{pairs_value_after, PairsAreWhole}
use Rattle.alt_decimal.specs.Normal.{ten_pow_pos}
use Rattle.alt_decimal.proofs.Widths.{width-le, mul-width_gt, mul-width_le, mul-zeros}
use Rattle.alt_decimal.proofs.Orders.{nat_cmp-mul, int_cmp-pos, int_cmp-neg, int_cmp-neg_pos, int_cmp-pos_neg, lt-by_place}
use Rattle.alt_decimal.proofs.Unspelling.{IsPairs, hundred, pairs_after, pairs_below, AreOf}
use Rattle.alt_decimal.proofs.Spelling.{magnitude_bytes-mul, spelled-zero, spelled-above, spelled-below}
use Rattle.alt_decimal.proofs.MagnitudeReads.{Filling, filling, filled_pairs, filled_whole, filled_few}

-- a first byte decides
cmp_less : (x y : ℕ) (xs ys : List ℕ) → x < y → slice_cmp nat_cmp (x ∷ xs) (y ∷ ys) ≡ Less
cmp_less x y xs ys h = rw (nat_cmp-less x y h) refl

-- two lists by their first members
cmp_greater : (x y : ℕ) (xs ys : List ℕ) → y < x → slice_cmp nat_cmp (x ∷ xs) (y ∷ ys) ≡ Greater
cmp_greater x y xs ys h = rw (nat_cmp-greater x y h) refl

cmp_same : (x y : ℕ) (xs ys : List ℕ) → x ≡ y
    → slice_cmp nat_cmp (x ∷ xs) (y ∷ ys) ≡ slice_cmp nat_cmp xs ys
cmp_same x y xs ys h = rw (nat_cmp-equal x y h) refl

nat_cmp-add : (a x y : ℕ) → nat_cmp (a + x) (a + y) ≡ nat_cmp x y
nat_cmp-add a x y = elim (cases_order x y) [
  | inl e ↦ nat_cmp-equal (a + x) (a + y) (omega (arith, e)) ∙ sym (nat_cmp-equal x y e)
  | inr o ↦ elim o [
    | inl lt ↦ nat_cmp-less (a + x) (a + y) (omega (arith, lt)) ∙ sym (nat_cmp-less x y lt)
    | inr gt ↦ nat_cmp-greater (a + x) (a + y) (omega (arith, gt)) ∙ sym (nat_cmp-greater x y gt)
  ]
]

-- ---- pairs, and 0 behind them

-- the number that pairs write, filled up to k pairs
abbrev filled_to : ℕ → List ℕ → ℕ
filled_to k ps = pairs_value_after 0 ps * 10 ^ (2 * (k - length ps))

-- the last pair is not 0
abbrev Solid : List ℕ → Type 0
Solid ps = 0 < length ps → pairs_value_after 0 ps % 100 ≢ 0

filled_to-below : (k : ℕ) (ps : List ℕ) → IsPairs ps → length ps ≤ k → filled_to k ps < 10 ^ (2 * k)
filled_to-below k ps h le =
    let p : 2 * k ≡ 2 * length ps + 2 * (k - length ps) = omega (arith, le) in
    let e : 10 ^ (2 * k) ≡ 10 ^ (2 * length ps) * 10 ^ (2 * (k - length ps)) =
    ap (λ i. 10 ^ i) p ∙ pow-add 10 (2 * length ps) (2 * (k - length ps)) in
    rw e (mul-lt-mul_of_pos_right (pairs_below ps h) (ten_pow_pos (2 * (k - length ps))))

filled_to-cons : (k p : ℕ) (ps : List ℕ) → length ps ≤ k
    → filled_to (suc k) (p ∷ ps) ≡ (p - 1) * 10 ^ (2 * k) + filled_to k ps
filled_to-cons k p ps le =
    let j = 2 * (k - length ps) in
    let same : 2 * (suc k - suc (length ps)) ≡ j = omega arith in
    let split : 2 * length ps + j ≡ 2 * k = omega (arith, le) in
    let shift : (p - 1) * 10 ^ (2 * length ps) * 10 ^ j ≡ (p - 1) * 10 ^ (2 * k) =
    mul_assoc (p - 1) (10 ^ (2 * length ps)) (10 ^ j)
    ∙ ap (λ q. (p - 1) * q) (sym (pow-add 10 (2 * length ps) j) ∙ ap (λ i. 10 ^ i) split) in
    let value : pairs_value_after 0 (p ∷ ps) ≡ (p - 1) * 10 ^
    (2 * length ps) + pairs_value_after 0 ps =
    omega (arith, pairs_after (0 * 100 + (p - 1)) ps) in
    ap (λ i. pairs_value_after 0 (p ∷ ps) * 10 ^ i) same ∙ ap (λ v. v * 10 ^ j) value
    ∙ omega (arith, shift)

-- behind a first pair the last is the same
Solid-rest : (p : ℕ) (ps : List ℕ) → Solid (p ∷ ps) → Solid ps
Solid-rest p [] h = λ some. absurd (omega arith)
Solid-rest p (q ∷ ps) h = λ some z.
    let e : (0 * 100 + (p - 1)) * 10 ^ (2 * suc (length ps))
    ≡ (0 * 100 + (p - 1)) * (10 ^ (2 * length ps) * 100) =
    ap (λ x. (0 * 100 + (p - 1)) * x) (hundred (length ps)) in
    h (omega arith) (omega (arith, pairs_after (0 * 100 + (p - 1)) (q ∷ ps), e, z))

Solid-pos : (ps : List ℕ) → Solid ps → 0 < length ps → 0 < pairs_value_after 0 ps
Solid-pos ps h some = let n = h some in omega (arith, n)

-- a greater pair outweighs what follows
value_less : (p q b x y : ℕ) → 0 < p → p < q → x < b → (p - 1) * b + x < (q - 1) * b + y
value_less p q b x y some lt h =
    let i : p - 1 + 1 ≤ q - 1 = omega (arith, some, lt) in
    omega (arith, mul-le-mul_right b i, h)

-- pairs are ordered as their numbers
pub pairs_cmp : (k : ℕ) (ps qs : List ℕ) → IsPairs ps → IsPairs qs → length ps ≤ k → length qs ≤ k
    → Solid ps → Solid qs
    → slice_cmp nat_cmp (ps ++ 0 ∷ []) (qs ++ 0 ∷ []) ≡ nat_cmp (filled_to k ps) (filled_to k qs)
pairs_cmp k [] [] hp hq lp lq sp sq = sym (nat_cmp-equal (filled_to k []) (filled_to k []) refl)
pairs_cmp k [] (q ∷ qs) hp hq lp lq sp sq =
    let above : 0 < filled_to k (q ∷ qs) = mul-pos (Solid-pos (q ∷ qs) sq (omega arith))
    (ten_pow_pos (2 * (k - length {A = ℕ} (q ∷ qs)))) in
    cmp_less 0 q [] (qs ++ 0 ∷ []) hq.0.0 ∙ sym
    (nat_cmp-less (filled_to k []) (filled_to k (q ∷ qs)) (omega (arith, above)))
pairs_cmp k (p ∷ ps) [] hp hq lp lq sp sq =
    let above : 0 < filled_to k (p ∷ ps) = mul-pos (Solid-pos (p ∷ ps) sp (omega arith))
    (ten_pow_pos (2 * (k - length {A = ℕ} (p ∷ ps)))) in
    cmp_greater p 0 (ps ++ 0 ∷ []) [] hp.0.0 ∙ sym
    (nat_cmp-greater (filled_to k (p ∷ ps)) (filled_to k []) (omega (arith, above)))
pairs_cmp zero (p ∷ ps) (q ∷ qs) hp hq lp lq sp sq = absurd (omega arith)
pairs_cmp (suc k) (p ∷ ps) (q ∷ qs) hp hq lp lq sp sq =
    let fp : filled_to (suc k) (p ∷ ps) ≡ (p - 1) * 10 ^ (2 * k) + filled_to k ps =
    filled_to-cons k p ps (omega arith) in
    let fq : filled_to (suc k) (q ∷ qs) ≡ (q - 1) * 10 ^ (2 * k) + filled_to k qs =
    filled_to-cons k q qs (omega arith) in
    let bp : filled_to k ps < 10 ^ (2 * k) = filled_to-below k ps hp.1 (omega arith) in
    let bq : filled_to k qs < 10 ^ (2 * k) = filled_to-below k qs hq.1 (omega arith) in
    elim (cases_order p q) [
      | inl e ↦
          cmp_same p q (ps ++ 0 ∷ []) (qs ++ 0 ∷ []) e
          ∙ pairs_cmp k ps qs hp.1 hq.1 (omega arith) (omega arith) (Solid-rest p ps sp)
          (Solid-rest q qs sq)
          ∙ sym (nat_cmp-add ((p - 1) * 10 ^ (2 * k)) (filled_to k ps) (filled_to k qs))
          ∙ ap (λ r. nat_cmp ((p - 1) * 10 ^ (2 * k) + filled_to k ps)
          ((r - 1) * 10 ^ (2 * k) + filled_to k qs)) e
          ∙ sym (ap (λ m. nat_cmp m (filled_to (suc k) (q ∷ qs))) fp
          ∙ ap (nat_cmp ((p - 1) * 10 ^ (2 * k) + filled_to k ps)) fq)
      | inr o ↦ elim o [
        | inl lt ↦ cmp_less p q (ps ++ 0 ∷ []) (qs ++ 0 ∷ []) lt
            ∙ sym (nat_cmp-less (filled_to (suc k) (p ∷ ps)) (filled_to (suc k) (q ∷ qs))
            (rw (fp, fq) (value_less p q (10 ^ (2 * k)) (filled_to k ps)
            (filled_to k qs) hp.0.0 lt bp)))
        | inr gt ↦ cmp_greater p q (ps ++ 0 ∷ []) (qs ++ 0 ∷ []) gt
            ∙ sym (nat_cmp-greater (filled_to (suc k) (p ∷ ps)) (filled_to (suc k) (q ∷ qs))
            (rw (fp, fq) (value_less q p (10 ^ (2 * k)) (filled_to k qs)
            (filled_to k ps) hq.0.0 gt bq)))
      ]
    ]

-- ---- magnitudes

-- a coefficient that fits and its zeros
pub record Fitting (t z : ℕ) : Type 0 where
  pub last : 0 < t % 10
  pub few : t < 10 ^ 38
  pub high : 37 < width t + z
  pub most : width t + z ≤ 293

-- its pairs write it, filled up to 38 digits
filled_coefficient : (t z : ℕ) → Fitting t z → filled_to 19 (digit_pairs (digits_of 10 t))
    ≡ t * 10 ^ (38 - width t)
filled_coefficient t z f =
    let h : Filling t = filling t in
    let a : AreOf h.n h.c (digit_pairs (digits_of 10 t)) = filled_pairs t f.last f.few h in
    let le : h.n ≤ 19 = filled_few t f.last f.few h in
    ap (λ v. v * 10 ^ (2 * (19 - length (digit_pairs (digits_of 10 t))))) a.value
    ∙ ap (λ i. h.c * 10 ^ (2 * (19 - i))) a.count
    ∙ elim h.digits [
      | inl e ↦
          let i : 2 * (19 - h.n) ≡ 38 - width t = omega (arith, e.1, le) in
          ap (λ j. h.c * 10 ^ j) i ∙ ap (λ c. c * 10 ^ (38 - width t)) (sym e.0)
      | inr e ↦
          let i : 38 - width t ≡ 1 + 2 * (19 - h.n) = omega (arith, e.1, le) in
          ap (λ c. c * 10 ^ (2 * (19 - h.n))) e.0 ∙ mul_assoc t 10 (10 ^ (2 * (19 - h.n)))
          ∙ ap (λ x. t * x) (sym (pow-add 10 1 (2 * (19 - h.n)))) ∙ ap (λ j. t * 10 ^ j) (sym i)
    ]

-- the pairs of a coefficient end with no empty one
solid_coefficient : (t z : ℕ) → Fitting t z → Solid (digit_pairs (digits_of 10 t))
solid_coefficient t z f = λ some z.
    let h : Filling t = filling t in
    let a : AreOf h.n h.c (digit_pairs (digits_of 10 t)) = filled_pairs t f.last f.few h in
    let w : PairsAreWhole h.c h.n = filled_whole t f.last f.few h in
    w.last (sym (ap (λ v. v % 100) a.value) ∙ z)

-- they are pairs
pub all_coefficient : (t z : ℕ) → Fitting t z → IsPairs (digit_pairs (digits_of 10 t))
all_coefficient t z f = let a = filled_pairs t f.last f.few (filling t) in a.all

-- and few
few_coefficient : (t z : ℕ) → Fitting t z → length (digit_pairs (digits_of 10 t)) ≤ 19
few_coefficient t z f =
    let a = filled_pairs t f.last f.few (filling t) in
    omega (arith, a.count, filled_few t f.last f.few (filling t))

-- coefficients at one place
scaled : (t z s : ℕ) → Fitting t z → s ≡ width t + z
    → t * 10 ^ (38 - width t) * 10 ^ s ≡ t * 10 ^ z * 10 ^ 38
scaled t z s f e =
    let i : 38 - width t + s ≡ z + 38 = omega (arith, e, width-le 38 t f.few) in
    mul-zeros (t * 10 ^ (38 - width t)) t (38 - width t) s refl ∙ ap (λ j. t * 10 ^ j) i
    ∙ sym (mul-zeros (t * 10 ^ z) t z 38 refl)

-- magnitudes are ordered as their bytes
magnitude_cmp : (t y u z : ℕ) → Fitting t y → Fitting u z
    → slice_cmp nat_cmp (magnitude_bytes (t * 10 ^ y)) (magnitude_bytes (u * 10 ^ z))
    ≡ nat_cmp (t * 10 ^ y) (u * 10 ^ z)
magnitude_cmp t y u z f g =
    let bf = magnitude_bytes-mul t y f.last in
    let bg = magnitude_bytes-mul u z g.last in
    let ps = digit_pairs (digits_of 10 t) in
    let qs = digit_pairs (digits_of 10 u) in
    ap (λ m. slice_cmp nat_cmp m (magnitude_bytes (u * 10 ^ z))) bf
    ∙ ap (slice_cmp nat_cmp ((width t + y - 38) ∷ (ps ++ 0 ∷ []))) bg
    ∙ elim (cases_order (width t + y) (width u + z)) [
      | inl e ↦
          cmp_same (width t + y - 38) (width u + z - 38) (ps ++ 0 ∷ []) (qs ++ 0 ∷ [])
          (ap (λ i. i - 38) e)
          ∙ pairs_cmp 19 ps qs (all_coefficient t y f) (all_coefficient u z g)
          (few_coefficient t y f) (few_coefficient u z g) (solid_coefficient t y f)
          (solid_coefficient u z g)
          ∙ ap (λ m. nat_cmp m (filled_to 19 qs)) (filled_coefficient t y f)
          ∙ ap (nat_cmp (t * 10 ^ (38 - width t))) (filled_coefficient u z g)
          ∙ sym (nat_cmp-mul (t * 10 ^ (38 - width t)) (u * 10 ^ (38 - width u))
          (10 ^ (width t + y)) (ten_pow_pos (width t + y)))
          ∙ ap (λ m. nat_cmp m (u * 10 ^ (38 - width u) * 10 ^ (width t + y)))
          (scaled t y (width t + y) f refl)
          ∙ ap (nat_cmp (t * 10 ^ y * 10 ^ 38)) (scaled u z (width t + y) g e)
          ∙ nat_cmp-mul (t * 10 ^ y) (u * 10 ^ z) (10 ^ 38) (ten_pow_pos 38)
      | inr o ↦ elim o [
        | inl lt ↦ cmp_less (width t + y - 38) (width u + z - 38) (ps ++ 0 ∷ []) (qs ++ 0 ∷ [])
            (omega (arith, lt, f.high))
            ∙ sym (nat_cmp-less (t * 10 ^ y) (u * 10 ^ z)
            (lt-by_place t y u z lt (omega (arith, g.last))))
        | inr gt ↦ cmp_greater (width t + y - 38) (width u + z - 38) (ps ++ 0 ∷ []) (qs ++ 0 ∷ [])
            (omega (arith, gt, g.high))
            ∙ sym (nat_cmp-greater (t * 10 ^ y) (u * 10 ^ z)
            (lt-by_place u z t y gt (omega (arith, f.last))))
      ]
    ]

-- ---- flipped bytes

-- flipped bytes are ordered the other way round
flip_nat : (x y : ℕ) → x < 256 → y < 256 → nat_cmp (255 - x) (255 - y) ≡ nat_cmp y x
flip_nat x y hx hy = elim (cases_order x y) [
  | inl e ↦ nat_cmp-equal (255 - x) (255 - y) (omega (arith, e)) ∙ sym (nat_cmp-equal y x (sym e))
  | inr o ↦ elim o [
    | inl lt ↦ nat_cmp-greater (255 - x) (255 - y) (omega (arith, lt, hy))
        ∙ sym (nat_cmp-greater y x lt)
    | inr gt ↦ nat_cmp-less (255 - x) (255 - y) (omega (arith, gt, hx)) ∙ sym (nat_cmp-less y x gt)
  ]
]

-- and so are flipped pairs
flip_pairs : (ps qs : List ℕ) → IsPairs ps → IsPairs qs
    → slice_cmp nat_cmp (complement (ps ++ 0 ∷ [])) (complement (qs ++ 0 ∷ []))
    ≡ slice_cmp nat_cmp (qs ++ 0 ∷ []) (ps ++ 0 ∷ [])
flip_pairs [] [] hp hq = refl
flip_pairs [] (q ∷ qs) hp hq = cmp_greater 255 (255 - q) [] (complement (qs ++ 0 ∷ []))
    (omega (arith, hq.0)) ∙ sym (cmp_greater q 0 (qs ++ 0 ∷ []) [] hq.0.0)
flip_pairs (p ∷ ps) [] hp hq = cmp_less (255 - p) 255 (complement (ps ++ 0 ∷ [])) []
    (omega (arith, hp.0)) ∙ sym (cmp_less 0 p [] (ps ++ 0 ∷ []) hp.0.0)
flip_pairs (p ∷ ps) (q ∷ qs) hp hq =
    rw (flip_nat p q (omega (arith, hp.0)) (omega (arith, hq.0)), flip_pairs ps qs hp.1 hq.1) refl

-- and magnitudes below zero
flip_magnitude : (t y u z : ℕ) → Fitting t y → Fitting u z
    → slice_cmp nat_cmp (complement (magnitude_bytes (t * 10 ^ y)))
    (complement (magnitude_bytes (u * 10 ^ z)))
    ≡ slice_cmp nat_cmp (magnitude_bytes (u * 10 ^ z)) (magnitude_bytes (t * 10 ^ y))
flip_magnitude t y u z f g =
    let a = width t + y - 38 in
    let b = width u + z - 38 in
    let first : nat_cmp (255 - a) (255 - b) ≡ nat_cmp b a =
    flip_nat a b (omega (arith, f.most)) (omega (arith, g.most)) in
    rw (magnitude_bytes-mul t y f.last, magnitude_bytes-mul u z g.last)
    (rw (
      first,
      flip_pairs (digit_pairs (digits_of 10 t)) (digit_pairs (digits_of 10 u)) (all_coefficient t y f)
          (all_coefficient u z g),
    ) refl)

-- ---- numbers

-- how a number looks, and its spelling
pub data Look (u : ℤ) : Type 0 where
  at_zero : u ≡ pos 0 → spelled u ≡ 2 ∷ [] → Look u
  over : (t z : ℕ) → Fitting t z → u ≡ pos (t * 10 ^ z)
      → spelled u ≡ 3 ∷ magnitude_bytes (t * 10 ^ z) → Look u
  under : (t z : ℕ) → Fitting t z → u ≡ neg_ℤ (pos (t * 10 ^ z))
      → spelled u ≡ 1 ∷ complement (magnitude_bytes (t * 10 ^ z)) → Look u

-- a magnitude is above zero
above_zero : (t z : ℕ) → Fitting t z → 0 < t * 10 ^ z
above_zero t z f = mul-pos (omega (arith, f.last)) (ten_pow_pos z)

-- two spellings, and two numbers, by what they are
both : (u v : ℤ) (x y : List ℕ) → spelled u ≡ x → spelled v ≡ y
    → slice_cmp nat_cmp (spelled u) (spelled v) ≡ slice_cmp nat_cmp x y
both u v x y e f = ap (λ s. slice_cmp nat_cmp s (spelled v)) e ∙ ap (slice_cmp nat_cmp x) f

numbers : (u v a b : ℤ) → u ≡ a → v ≡ b → int_cmp a b ≡ int_cmp u v
numbers u v a b e f = sym (ap (λ s. int_cmp s v) e ∙ ap (int_cmp a) f)

-- two spellings by the signs of their numbers
looks_cmp : (u v : ℤ) → Look u → Look v → slice_cmp nat_cmp (spelled u) (spelled v) ≡ int_cmp u v
looks_cmp u v (at_zero e s) (at_zero f r) = both u v _ _ s r
    ∙ sym (int_cmp-pos 0 0 ∙ nat_cmp-equal 0 0 refl) ∙ numbers u v (pos 0) (pos 0) e f
looks_cmp u v (at_zero e s) (over t z h f r) =
    both u v _ _ s r ∙ cmp_less 2 3 [] (magnitude_bytes (t * 10 ^ z)) (omega arith)
    ∙ sym (int_cmp-pos 0 (t * 10 ^ z) ∙ nat_cmp-less 0 (t * 10 ^ z) (above_zero t z h))
    ∙ numbers u v (pos 0) (pos (t * 10 ^ z)) e f
looks_cmp u v (at_zero e s) (under t z h f r) =
    both u v _ _ s r ∙ cmp_greater 2 1 [] (complement (magnitude_bytes (t * 10 ^ z))) (omega arith)
    ∙ sym (int_cmp-pos_neg 0 (t * 10 ^ z) (above_zero t z h))
    ∙ numbers u v (pos 0) (neg_ℤ (pos (t * 10 ^ z))) e f
looks_cmp u v (over t y g e s) (at_zero f r) =
    both u v _ _ s r ∙ cmp_greater 3 2 (magnitude_bytes (t * 10 ^ y)) [] (omega arith)
    ∙ sym (int_cmp-pos (t * 10 ^ y) 0 ∙ nat_cmp-greater (t * 10 ^ y) 0 (above_zero t y g))
    ∙ numbers u v (pos (t * 10 ^ y)) (pos 0) e f
looks_cmp u v (over t y g e s) (over t' z h f r) =
    both u v _ _ s r ∙ cmp_same 3 3 (magnitude_bytes (t * 10 ^ y))
    (magnitude_bytes (t' * 10 ^ z)) refl ∙ magnitude_cmp t y t' z g h
    ∙ sym (int_cmp-pos (t * 10 ^ y) (t' * 10 ^ z))
    ∙ numbers u v (pos (t * 10 ^ y)) (pos (t' * 10 ^ z)) e f
looks_cmp u v (over t y g e s) (under t' z h f r) =
    both u v _ _ s r ∙ cmp_greater 3 1 (magnitude_bytes (t * 10 ^ y))
    (complement (magnitude_bytes (t' * 10 ^ z))) (omega arith)
    ∙ sym (int_cmp-pos_neg (t * 10 ^ y) (t' * 10 ^ z) (above_zero t' z h))
    ∙ numbers u v (pos (t * 10 ^ y)) (neg_ℤ (pos (t' * 10 ^ z))) e f
looks_cmp u v (under t y g e s) (at_zero f r) =
    both u v _ _ s r ∙ cmp_less 1 2 (complement (magnitude_bytes (t * 10 ^ y))) [] (omega arith)
    ∙ sym (int_cmp-neg_pos (t * 10 ^ y) 0 (above_zero t y g))
    ∙ numbers u v (neg_ℤ (pos (t * 10 ^ y))) (pos 0) e f
looks_cmp u v (under t y g e s) (over t' z h f r) =
    both u v _ _ s r ∙ cmp_less 1 3 (complement (magnitude_bytes (t * 10 ^ y)))
    (magnitude_bytes (t' * 10 ^ z)) (omega arith)
    ∙ sym (int_cmp-neg_pos (t * 10 ^ y) (t' * 10 ^ z) (above_zero t y g))
    ∙ numbers u v (neg_ℤ (pos (t * 10 ^ y))) (pos (t' * 10 ^ z)) e f
looks_cmp u v (under t y g e s) (under t' z h f r) =
    both u v _ _ s r ∙ cmp_same 1 1 (complement (magnitude_bytes (t * 10 ^ y)))
    (complement (magnitude_bytes (t' * 10 ^ z))) refl
    ∙ flip_magnitude t y t' z g h ∙ magnitude_cmp t' z t y h g
    ∙ sym (int_cmp-neg (t * 10 ^ y) (t' * 10 ^ z))
    ∙ numbers u v (neg_ℤ (pos (t * 10 ^ y))) (neg_ℤ (pos (t' * 10 ^ z))) e f

-- each number looks like one of these
look_above : (d : Inside) → IsNormal d → 0 < d.coefficient → Look (units_of d)
look_above d n above =
    let f : Fitting d.coefficient d.zeros = record {
      last = n.no_zero_behind above;
      few = n.digits;
      high = mul-width_gt d.coefficient d.zeros 37 (n.least above);
      most = mul-width_le d.coefficient d.zeros 293 above n.below;
    } in
    elim (cases_Bool d.negative) [
      | inl neg ↦ under d.coefficient d.zeros f
          (ap (λ s. with_sign s (d.coefficient * 10 ^ d.zeros)) neg) (spelled-below d n above neg)
      | inr plus ↦ over d.coefficient d.zeros f
          (ap (λ s. with_sign s (d.coefficient * 10 ^ d.zeros)) plus) (spelled-above d n above plus)
    ]

-- zero too
pub look : (d : Inside) → IsNormal d → Look (units_of d)
look d n = elim (cases_lt 0 d.coefficient) [
  | inl above ↦ look_above d n above
  | inr none ↦
      let z : d.coefficient ≡ 0 = omega (arith, none) in
      let e : units_of d ≡ pos 0 = units_of-zero d n z in
      at_zero e (ap spelled e ∙ spelled-zero)
]

-- so spellings are ordered as their numbers
pub spelled_cmp : (d e : Inside) → IsNormal d → IsNormal e
    → int_cmp (units_of d) (units_of e) ≡ slice_cmp nat_cmp (spelled (units_of d))
    (spelled (units_of e))
spelled_cmp d e n m = sym (looks_cmp (units_of d) (units_of e) (look d n) (look e m))
